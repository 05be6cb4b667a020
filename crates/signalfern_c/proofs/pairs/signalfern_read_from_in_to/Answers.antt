-- `signalfern_c::pairs::signalfern_read_from_in_to` meets its contract. Assumes nothing.
use Rattle.format.specs.Kit.{ap, ◌∙◌, length, min}
use Rattle.format.specs.Opening.{Opened}
use Rattle.format.specs.ReadFrom.{read_from_in, readout_reply, readout_after}
use Rattle.answers.specs.Words.{readout_words}
use Rattle.signalfern_c.proofs.pairs.signalfern_read_from_in_to.Goals as goal

pub returns : goal.returns
returns c =
    let w = c.read_from_in-told in
    let a = c.args in
    let b = a.bytes.now in
    let room = min (length a.ids.now) (length a.values.now) in record {
      replies = c.put_readout.ensures ∙ ap readout_words w.ensures.replies
          ∙ ap (λ (x : Opened). readout_words (readout_reply (read_from_in b x a.id room))) c.column_in.ensures;
      ids_placed = w.ensures.ids_placed ∙ ap (λ (x : Opened). readout_after (λ p. p.ids) (read_from_in b x a.id room) a.ids.now) c.column_in.ensures;
      values_placed = w.ensures.values_placed ∙ ap (λ (x : Opened). readout_after (λ p. p.values) (read_from_in b x a.id room) a.values.now) c.column_in.ensures;
    }
