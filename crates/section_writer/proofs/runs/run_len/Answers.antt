-- `section_writer::runs::run_len` meets its contract. Assumes nothing.
use Rattle.format.specs.Kit.{◌≡◌, length, take, length-take-le, arith, rules}
use Rattle.std.proofs.lemmas.List.Sorted.{IsPartitionPoint-from_clause}
use Rattle.section_writer.proofs.FirstRun.{in_block, parted, first_run}
use Rattle.section_writer.proofs.runs.run_len.Goals as goal

pub returns : goal.returns
returns c =
    let ids = c.args.ids.now in
    let b = c.number_of-b in
    let n : length (take c.searched-n.result ids) ≡ c.searched-n.result = length-take-le c.searched-n.result ids (omega arith) in
    let parts = parted ids b.result c.searched-n.result c.requires.1 c.requires.0 b.ensures.0 c.searched-n.ensures.0 c.searched-n.ensures.1 in
    let point = IsPartitionPoint-from_clause (in_block b.result) _ _ c.partition_point.ensures.partitioned parts (λ a r q k. search rules) in
    (omega arith, first_run ids b.result c.searched-n.result c.requires.1 c.requires.0 b.ensures.0 c.searched-n.ensures.0 c.searched-n.ensures.1 c.partition_point.result (omega arith) point)
