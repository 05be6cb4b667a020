-- `values::rules` meets its contract. Assumes nothing.
use Rattle.format.specs.Kit.{◌≡◌, sym, ap, ◌∙◌, Bool}
use Rattle.format.specs.Codec.{Codec}
use Rattle.format.specs.Editions.{codec}
use Rattle.answers.specs.Replies.{fields_of}
use Rattle.values.specs.declared.Layout as La
use Rattle.values.specs.Edition.{edition_of}
use Rattle.values.proofs.Layouts.{codec_by, codec_is}
use Rattle.values.proofs.rules.Goals as goal
use Rattle.values.proofs.rules.Goals.{After-layout_of}

-- by the layout that was told
answered : (c : After-layout_of) (l : La.Layout) → c.layout_of.result ≡ l → (r : Bool) → let a = c.args in
    r ≡ (codec_by l).fields_ok a.n (fields_of a.fields) a.v → r ≡ (codec (edition_of a.edition)).fields_ok a.n (fields_of a.fields) a.v
answered c l e r h =
    let a = c.args in
    h ∙ ap (λ (k : Codec). k.fields_ok a.n (fields_of a.fields) a.v) (sym (codec_is (edition_of a.edition) c.layout_of.ensures e))

pub returns-in-Whole : goal.returns-in-Whole
returns-in-Whole c =
    answered (goal.at.returns-in-Whole c).After-layout_of _ c.in-Whole.is _ (c.rules.ensures c.args.n c.packed_bytes-packed.ensures.0)
