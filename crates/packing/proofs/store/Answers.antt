-- `packing::store` meets its contract: std's bytes of a number, the highest first, are its quotients. Assumes nothing.
use Rattle.std.specs.Int.{w64, to_be_bytes}
use Rattle.std.proofs.lemmas.Slice.{take-put_mid_below, drop-put_mid}
use Rattle.std.proofs.lemmas.List.{get_or-append_right, get_or_append_left}
use Rattle.format.specs.Kit.{◌≡◌, refl, sym, ap, ◌∙◌, List, ℕ, suc, ◌+◌, ◌*◌, ◌-◌, ◌/◌, ◌%◌, ◌^◌, ◌<◌, le_refl, div-one, arith, get_or, take, get_or-take, length-take-le, put_mid, post_of, zero, ◌++◌}
use Rattle.packing.proofs.store.Goals as goal

-- byte j of eight
byte_is : (v j : ℕ) → j < 8 → get_or (to_be_bytes w64 v) j 0 ≡ v / 2 ^ (56 - j * 8) % 2 ^ 8
byte_is v zero h = refl
byte_is v (suc zero) h = refl
byte_is v (suc (suc zero)) h = refl
byte_is v (suc (suc (suc zero))) h = refl
byte_is v (suc (suc (suc (suc zero)))) h = refl
byte_is v (suc (suc (suc (suc (suc zero))))) h = refl
byte_is v (suc (suc (suc (suc (suc (suc zero)))))) h = refl
byte_is v (suc (suc (suc (suc (suc (suc (suc zero))))))) h = sym (ap (λ (x : ℕ). x % 256) (div-one v))
byte_is v (suc (suc (suc (suc (suc (suc (suc (suc j)))))))) h = absurd (omega arith)

pub returns : goal.returns
returns c =
    let a = c.args in
    let d : List ℕ = a.dst.now in
    let part : List ℕ = c.copy_from_slice.new.self in
    let e : List ℕ = put_mid a.at (a.at + a.n - a.at) d part in
    let is : part ≡ take a.n (to_be_bytes w64 a.v) = c.copy_from_slice.ensures.after ∙ ap (take a.n) c.to_be_bytes.ensures in
    record {
      before = λ k l.
          sym (get_or-take a.at e k 0 l) ∙ ap (λ (xs : List ℕ). get_or xs k 0) (take-put_mid_below a.at _ d part a.at (le_refl a.at) (omega arith))
          ∙ get_or-take a.at d k 0 l;
      bytes = λ j l.
          let back : a.at + j - a.at ≡ j = omega arith in
          get_or-append_right (take a.at d) (part ++ post_of a.at (a.at + a.n - a.at) d) a.at (a.at + j) 0 (length-take-le a.at d (omega arith)) (omega arith)
          ∙ ap (λ (i : ℕ). get_or (part ++ post_of a.at (a.at + a.n - a.at) d) i 0) back
          ∙ get_or_append_left part (post_of a.at (a.at + a.n - a.at) d) 0 j (omega (arith, c.copy_from_slice.ensures.len))
          ∙ ap (λ (xs : List ℕ). get_or xs j 0) is ∙ get_or-take a.n (to_be_bytes w64 a.v) j 0 l ∙ byte_is a.v j (omega arith);
      rest = drop-put_mid a.at _ d part (a.at + a.n) (omega arith) (omega arith) (omega (arith, c.copy_from_slice.ensures.len));
    }
