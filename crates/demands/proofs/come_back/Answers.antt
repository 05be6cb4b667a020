-- `demands::come_back` meets its contract. Assumes nothing.
use Rattle.format.specs.Kit.{refl, sym, ap, ◌∙◌, ℕ, arith, sub-zero, take}
use Rattle.answers.specs.Replies.{reply_of}
use Rattle.demands.proofs.Replies.{not_done, not_refusal, done_is}
use Rattle.demands.proofs.Lists.{moved}
use Rattle.demands.proofs.come_back.Goals as goal
use Rattle.demands.proofs.come_back.Goals.{In-Ok}

pub returns-in_default : goal.returns-in_default
returns-in_default c =
    let t = c.in_default.is in
    record { same = refl; back = λ n m d. not_done _ _ t n d; refused = λ why w f. (refl, refl) }

-- more bytes than the output has
pub returns-then-end-out : goal.returns-then-end-out
returns-then-end-out c =
    let t = c.in-Ok.is in record { same = sym t; back = λ n m d h x. absurd (let e = sym (ap reply_of t) ∙ d in let z = done_is e in omega (arith, c.if-end-out.true)); refused = λ why w f. not_refusal _ _ t why w f }

pub returns : goal.returns
returns c =
    let a = c.args in
    let t = c.in-Ok.is in
    let k = c.check_then_read-back.ensures in record {
      same = sym t;
      back = λ n i d h x.
          let e = done_is (sym (ap reply_of t) ∙ d) in
          let y = moved _ _ (sym (ap (λ (j : ℕ). take j a.out.now) (sub-zero c.in-Ok.n ∙ e))) i x in
          record {
            checks = λ j g. (k.accepts _).1 y;
            reads = λ j g hi hx. k.reads _ y hi hx;
            refused = λ why w. not_refusal _ _ t why w;
          };
      refused = λ why w f. not_refusal _ _ t why w f;
    }
