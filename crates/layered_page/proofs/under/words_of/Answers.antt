-- `layered_page::under::words_of` meets its contract. Assumes nothing.
use Rattle.column.specs.Opened.{opened_of}
use Rattle.page.specs.Openings.{look_by}
use Rattle.layered_page.proofs.Lost.{one_word}
use Rattle.layered_page.proofs.under.words_of.Goals as goal

pub returns : goal.returns
returns c = let a = c.args in
    one_word (look_by a.bytes.now (opened_of a.opening)) a.id _ c.fill_by.ensures.words
