-- An entry more of the table, and the section from its two parts. Assumes nothing.
use Rattle.format.specs.Kit.{◌≡◌, sym, ap, ap₂, ◌∙◌, List, [], ◌++◌, append_assoc, append-nil, map, ℕ, ◌+◌, ◌-◌, ◌*◌, ◌<◌, ◌≤◌, add-one, arith}
use Rattle.format.specs.Kit.{ℤ, pos, length, get_or, drop, drop-cons, drop-drop, drop_at, drop_of_length-le, length-sets, take, take_all, take_at}
use Rattle.format.specs.Kit.{length-drop, le_refl, sets, put_mid, post_of, Post-is}
use Rattle.format.specs.Bytes.{bytes_of}
use Rattle.format.specs.Bits.{packed, packed_bytes}
use Rattle.format.specs.Table.{code_in, code_width, table_entry, table_section}
use Rattle.laws.proofs.Stores.{sets_front}
use Rattle.laws.proofs.Table.{length_table, length_section}

-- an entry more
pub entries_more : (us : List ℤ) (i : ℕ) → i < length us → bytes_of table_entry (drop i us) ≡ table_entry (get_or us i (pos 0)) ++ bytes_of table_entry
    (drop (i + 1) us)
unfolding bytes_of
entries_more us i h = rw (add-one, drop-cons us i (pos 0))

pub entries_end : (us : List ℤ) (i : ℕ) → length us ≤ i → bytes_of table_entry (drop i us) ≡ []
unfolding bytes_of
entries_end us i h = rw (drop_of_length-le us h)

-- the codes into the part that follows the table
pub section_made : (us vs : List ℤ) (out mid part : List ℕ) → length (table_section us vs) ≤ length out → mid ≡ sets out 0 (bytes_of table_entry us)
    → let w = code_width (length us) in
    let at = 8 * length us in
    part ≡ packed w (map (code_in us) vs) ++ drop (packed_bytes (length vs) w) (take (length mid - at) (drop at mid))
    → put_mid at (length mid - at) mid part ≡ table_section us vs ++ drop (length (table_section us vs)) out
unfolding table_section
section_made us vs out mid part fits em ep =
    let w : ℕ = code_width (length us) in
    let at : ℕ = 8 * length us in
    let es : List ℕ = bytes_of table_entry us in
    let cs : List ℕ = packed w (map (code_in us) vs) in
    let total : length (es ++ cs) ≡ at + packed_bytes (length vs) w = length_section us vs in
    let e-long : length es ≡ at = length_table us in
    let front : mid ≡ es ++ drop at out = em ∙ sets_front out es (omega arith) ∙ ap (λ (n : ℕ). es ++ drop n out) e-long in
    let kept : length mid ≡ length out = ap length em ∙ length-sets out 0 es in
    let after : drop at mid ≡ drop at out = ap (drop at) front ∙ drop_at es (drop at out) at e-long in
    let whole : take (length mid - at) (drop at mid) ≡ drop at out =
    take_all (length mid - at) (drop at mid) (omega (arith, length-drop at mid)) ∙ after in
    let none_left : post_of at (length mid - at) mid ≡ [] = Post-is at (length mid) mid (omega arith) ∙ drop_of_length-le mid (le_refl (length mid)) in
    ap (λ (x : List ℕ). take at mid ++ (part ++ x)) none_left
    ∙ ap₂ (λ (x y : List ℕ). x ++ y) (ap (take at) front ∙ take_at es (drop at out) at e-long)
    (append-nil part ∙ ep ∙ ap (λ (x : List ℕ). cs ++ drop (packed_bytes (length vs) w) x) whole
    ∙ ap (λ (x : List ℕ). cs ++ x) (drop-drop (packed_bytes (length vs) w) at out))
    ∙ sym (append_assoc es cs (drop (at + packed_bytes (length vs) w) out))
    ∙ ap (λ (n : ℕ). (es ++ cs) ++ drop n out) (sym total)
