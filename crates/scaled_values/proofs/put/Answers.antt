-- `scaled_values::put` meets its contract. Assumes nothing.
use Rattle.format.specs.Kit.{sym, ap, ◌∙◌, subst, ℕ, ◌≤◌, ◌/◌, length}
use Rattle.format.specs.HeaderNumbers.{unzigzag}
use Rattle.format.specs.Bits.{packed_bytes}
use Rattle.format.specs.Values.{smallest, spread}
use Rattle.answers.specs.Replies.{fields_of}
use Rattle.laws.proofs.Fits.{unzigzag_zigzag}
use Rattle.packings.specs.Packings.{packing_of}
use Rattle.signed.specs.Sign.{biased}
use Rattle.scaled_values.proofs.Facts.{FieldsOf, fields_are}
use Rattle.scaled_values.proofs.Store.{length_section, section_is}
use Rattle.scaled_values.proofs.put.Goals as goal
use Rattle.scaled_values.proofs.put.Goals.{Start}

fields : (s : Start) → FieldsOf s.args.order s.args.values.now (fields_of s.args.fields)
fields s = fields_are _ _ _ s.requires.0 s.requires.1

pub put_numbers-requires : goal.put_numbers-requires
put_numbers-requires c =
    let a = c.args in
    let vs = a.values.now in
    let f = fields (goal.at.put_numbers-requires c).Start in
    record {
      low_is = c.biased_of-low.ensures ∙ ap biased (ap unzigzag f.smallest_is ∙ unzigzag_zigzag (smallest vs));
      positive = f.positive;
      width_is = f.width_is ∙ ap (λ (g : ℕ). (packing_of a.order).width_for (spread vs / g)) (sym f.divisor_is);
      fit = c.requires.1;
      enough = subst (λ (n : ℕ). n ≤ length a.out.now) (length_section a.order vs ∙ ap (λ (w : ℕ). packed_bytes (length vs) w) (sym f.width_is))
          c.requires.2;
    }

pub returns : goal.returns
returns c =
    let f = fields (goal.at.returns c).Start in
    c.put_numbers.ensures ∙ section_is c.args.order c.args.values.now _ _ _ f.divisor_is f.width_is
