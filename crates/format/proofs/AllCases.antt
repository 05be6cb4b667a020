-- Every computed case about the definitions, in one statement: document 01's starred table, both sides of each refusal's line, and of
-- document 02 the next candidate ([1]), the divisor ([2]), a page ([3]), the places ([4]), the bytes of a fetch ([5]), edition 2 ([6]), the
-- probes ([8]), the judge ([9]), a correction on top ([10]), edition 3 ([11]), edition 4 ([12]), the set on disk ([14]); pairs from an id on,
-- the pair with an ordinal, the question from an ordinal on; a page and a reading with a correction on top.
-- (It is the first of these files to be checked, so that a slip in a definition shows as the case that it breaks.) Assumes nothing.
use Rattle.format.proofs.Starred.{Starred, starred}
use Rattle.format.proofs.Pins.{WriterCases, writer_cases, DivisorCases, divisor_cases, HeaderCases, header_cases}
use Rattle.format.proofs.PinsPlaces.{PlaceCases, place_cases}
use Rattle.format.proofs.PinsNext.{NextCases, next_cases, NextKindCases, next_kind_cases, NextDamageCases, next_damage_cases}
use Rattle.format.proofs.PinsLayered.{LayeredCases, layered_cases, LayeredInCases, layered_in_cases, LayeredPartCases, layered_part_cases}
use Rattle.format.proofs.PinsSets.{SetCases, set_cases, SetCheckCases, set_check_cases, SetFindCases, set_find_cases}
use Rattle.format.proofs.PinsPlans.{PlanCases, plan_cases, PlannedCases, planned_cases, TableCases, table_cases}
use Rattle.format.proofs.PinsSteps.{DamageCases, damage_cases, StepCases, step_cases, WalkCases, walk_cases}
use Rattle.format.proofs.PinsProbes.{HalvingCases, halving_cases, ProbeCases, probe_cases}
use Rattle.format.proofs.PinsTaken.{TakenCases, taken_cases, BackCases, back_cases}
use Rattle.format.proofs.PinsPage.{PageCases, page_cases}
use Rattle.format.proofs.PinsLucene.{LowCases, low_cases, LuceneCases, lucene_cases, ToldCases, told_cases}
use Rattle.format.proofs.PinsJudge.{JudgeCases, judge_cases, DenseJudgeCases, dense_judge_cases}
use Rattle.format.proofs.PinsRuns.{RunCases, run_cases, DirectoryCases, directory_cases, BetweenCases, between_cases}
use Rattle.format.proofs.PinsReadFrom.{ReadFromCases, read_from_cases, PairAtCases, pair_at_cases, PairKindCases, pair_kind_cases}
use Rattle.format.proofs.PinsReadFrom.{PairDamageCases, pair_damage_cases, BetweenFromCases, between_from_cases}
use Rattle.format.proofs.PinsLayeredCalls.{LayeredPageCases, layered_page_cases, LayeredReadCases, layered_read_cases}

pub record AllCases : Type 0 where
  pub starred_table : Starred
  pub writer_table : WriterCases
  pub divisor_table : DivisorCases
  pub header_table : HeaderCases
  pub place_table : PlaceCases
  pub damage_table : DamageCases
  pub step_table : StepCases
  pub walk_table : WalkCases
  pub halving_table : HalvingCases
  pub probe_table : ProbeCases
  pub next_table : NextCases
  pub next_kind_table : NextKindCases
  pub next_damage_table : NextDamageCases
  pub layered_table : LayeredCases
  pub layered_in_table : LayeredInCases
  pub layered_part_table : LayeredPartCases
  pub set_table : SetCases
  pub set_check_table : SetCheckCases
  pub set_find_table : SetFindCases
  pub plan_table : PlanCases
  pub planned_table : PlannedCases
  pub table_table : TableCases
  pub taken_table : TakenCases
  pub back_table : BackCases
  pub page_table : PageCases
  pub low_table : LowCases
  pub lucene_table : LuceneCases
  pub told_table : ToldCases
  pub judge_table : JudgeCases
  pub dense_judge_table : DenseJudgeCases
  pub run_table : RunCases
  pub directory_table : DirectoryCases
  pub between_table : BetweenCases
  pub read_from_table : ReadFromCases
  pub pair_at_table : PairAtCases
  pub pair_kind_table : PairKindCases
  pub pair_damage_table : PairDamageCases
  pub between_from_table : BetweenFromCases
  pub layered_page_table : LayeredPageCases
  pub layered_read_table : LayeredReadCases

pub all_cases : AllCases
all_cases =
    record {
      starred_table = starred;
      writer_table = writer_cases;
      divisor_table = divisor_cases;
      header_table = header_cases;
      place_table = place_cases;
      damage_table = damage_cases;
      step_table = step_cases;
      walk_table = walk_cases;
      halving_table = halving_cases;
      probe_table = probe_cases;
      next_table = next_cases;
      next_kind_table = next_kind_cases;
      next_damage_table = next_damage_cases;
      layered_table = layered_cases;
      layered_in_table = layered_in_cases;
      layered_part_table = layered_part_cases;
      set_table = set_cases;
      set_check_table = set_check_cases;
      set_find_table = set_find_cases;
      plan_table = plan_cases;
      planned_table = planned_cases;
      table_table = table_cases;
      taken_table = taken_cases;
      back_table = back_cases;
      page_table = page_cases;
      low_table = low_cases;
      lucene_table = lucene_cases;
      told_table = told_cases;
      judge_table = judge_cases;
      dense_judge_table = dense_judge_cases;
      run_table = run_cases;
      directory_table = directory_cases;
      between_table = between_cases;
      read_from_table = read_from_cases;
      pair_at_table = pair_at_cases;
      pair_kind_table = pair_kind_cases;
      pair_damage_table = pair_damage_cases;
      between_from_table = between_from_cases;
      layered_page_table = layered_page_cases;
      layered_read_table = layered_read_cases;
    }
