-- `page::refused` meets its contract. Assumes nothing.
use Rattle.format.specs.Kit.{refl}
use Rattle.format.specs.Page.{place_ordinal, place_value, place_kind, place_words}
use Rattle.page.proofs.refused.Goals as goal

pub returns : goal.returns
unfolding place_ordinal place_value place_kind place_words
returns c = record { ordinal = refl; value = refl; kind = c.number.ensures; words = refl }
