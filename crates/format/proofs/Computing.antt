-- What the computed cases open: every definition that a public call computes with. `unfolding computing` opens all that is named here.
-- Assumes nothing.
use Rattle.format.specs.Kit.{bind, ones_in}
use Rattle.format.specs.Refusals.{and_then, need, given, need_none}
use Rattle.format.specs.Bytes.{bytes_of, count_from, digits, same, from_digits, low_at, high_at, twos, untwos}
use Rattle.format.specs.HeaderNumbers.{groups, number, above, read_groups, read_number, got_at, number_at, numbers_at}
use Rattle.format.specs.Bits.{bit_of, gather, tabulate, packed, bit_at, fetched, fetched_bytes}
use Rattle.format.specs.BitsLow.{bit_low, gather_low, packed_low, bit_low_at, fetched_low}
use Rattle.format.specs.Ids.{push, runs, kind_of, by_kind, rank_bytes, data_bytes, block_bytes, bitmap, count_below, rank_table, block_data, block_of, end_block}
use Rattle.format.specs.Ids.{jumps_from, not_two, jumps, entry_bytes, blocks, id_section}
use Rattle.format.specs.IdsRead.{shorts, places_in, read_runs, ids_of}
use Rattle.format.specs.Values.{least_of, most_of, smallest, greatest, spread, gcd_in, gcd, gcd_from, differences, divisor}
use Rattle.format.specs.Values.{bits_in, bit_length, width_with, width, stored_with, stored, value_at}
use Rattle.format.specs.Codec.{scaled, signed64}
use Rattle.format.specs.ValueRuns.{runs_in, runs_of, run_bytes, summary_of, summaries, summary_bytes, summary_at, run_section, in_run, in_runs}
use Rattle.format.specs.Table.{insert, insert_all, table_of, code_in, table_fields, table_entry, table_section, table_value, ascends_from, ascends, is_in, all_in}
use Rattle.format.specs.Table.{value_share, shorter, table_ok, tabled}
use Rattle.format.specs.Plan.{plan_ok, plan_of, planned, plan_edition, chosen, plan}
use Rattle.format.specs.Editions.{number_of, editions, edition_in, high_first, lucene_widths, first_enough, among, low_first, codec}
use Rattle.format.specs.Column.{head_of, head_numbers, column}
use Rattle.format.specs.Writer.{not_above, order_fault, range_fault, write_if, write_as, write_planned, write, write_reply, write_out}
use Rattle.format.specs.Opening.{open_column, head_from, head_ok, id_part, value_part, value_in, value_of}
use Rattle.format.specs.Check.{check, all_values, pairs_in, is_done, is_column, accepted, reading}
use Rattle.format.specs.LookUp.{scan, halve_in, halve, in_sparse, ones_from, stride_long, stride_rank, dense_at, place_at, probes_at, entry_at, answer, from_entry}
use Rattle.format.specs.LookUp.{steps, entered, probes_from, step_probes, look_up, opened_probes, look_up_probes, look_up_in}
use Rattle.format.specs.Walk.{index_of, seen_or, walk_from, walk, listed, listed_places, probes}
use Rattle.format.specs.Pairs.{asc_from}
use Rattle.format.specs.FirstBetween.{scan_from, runs_from, between_steps, first_between, first_between_in, first_in}
use Rattle.format.specs.Next.{decides, in_turn, next_steps, next, next_in, last_after, first_from, list_next, in_sequence}
use Rattle.format.specs.ReadFrom.{is_none, goes_on, pairs_from, read_steps, read_from, read_from_in, readout_reply, readout_after, list_readout, list_read_from, id_after}
use Rattle.format.specs.PairAt.{last_in, last_up_to, bit_after, dense_with, place_with, pair_from, pair_steps, pair_at, pair_at_in, list_pair}
use Rattle.format.specs.BetweenFrom.{from_value, between_steps_from, first_between_from, first_between_from_in}
use Rattle.format.specs.Layered.{underneath, on_top, look_up_layered, look_up_layered_in, lists_answer}
use Rattle.format.specs.LayeredPage.{layered_kind, layered_ordinal, layered_value, layered_column, machine_words, correction_words, page_by, layered_page}
use Rattle.format.specs.LayeredPage.{layered_page_in, sum_of, layered_reply, layered_after, lists_place, lists_page, machine_formula, correction_formula}
use Rattle.format.specs.LayeredReading.{next_from, sooner, next_of_both, none_next, steps_on, layered_steps, both_then, answering_from, column_from, column_from_in}
use Rattle.format.specs.LayeredReading.{read_layered, read_layered_in, layered_read_reply, layered_read_after, pairs_of, corrected, corrected_by, merged_from}
use Rattle.format.specs.LayeredReading.{list_read, lists_read, pair_with, reading_of, calls_from}
use Rattle.format.specs.SetBytes.{set_kind, begins, past, missing, set_list, set_data, set_block_as, set_block, set_bytes, set_write}
use Rattle.format.specs.SetCalls.{list_length_ok, set_data_bytes, set_data_fits, set_data_ok, set_places, data_from, length_from, kind_from, block_from, set_run}
use Rattle.format.specs.SetCalls.{blocks_from, set_ids, set_check, member_in, set_find}
use Rattle.format.specs.Page.{place_kind, place_ordinal, place_value, place_words, page, page_words, page_reply, page_after}
use Rattle.format.specs.Orders.{fixed_at, numbers_in, end_in, entry_in}
use Rattle.format.specs.Judge.{ranks_from, places_ok, ones_ok, ranks_ok, first_failed, tests_at, unless_fault, judge_from, jumps_at, jumps_in, judge_entries}
use Rattle.format.specs.Judge.{judge_rest, judge, judge_section}

unfoldable pub computing : Type 0
unfolding bind ones_in and_then need given need_none bytes_of count_from digits same from_digits low_at high_at twos untwos groups number above read_groups
    read_number got_at number_at numbers_at bit_of gather tabulate packed bit_at fetched fetched_bytes bit_low gather_low packed_low bit_low_at fetched_low push
    runs kind_of by_kind rank_bytes data_bytes block_bytes bitmap count_below rank_table block_data block_of end_block jumps_from not_two jumps entry_bytes blocks
    id_section shorts places_in read_runs ids_of least_of most_of smallest greatest spread gcd_in gcd gcd_from differences divisor bits_in bit_length width_with
    width stored_with stored value_at scaled signed64 runs_in runs_of run_bytes summary_of summaries summary_bytes summary_at run_section in_run in_runs number_of
    editions edition_in high_first lucene_widths first_enough among low_first codec head_of head_numbers column not_above order_fault range_fault write_if
    write_as write_planned write write_reply write_out open_column head_from head_ok id_part value_part value_in value_of check all_values pairs_in is_done is_column
    accepted reading scan halve_in halve in_sparse ones_from stride_long stride_rank dense_at place_at probes_at entry_at answer from_entry steps entered
    probes_from step_probes look_up opened_probes look_up_probes look_up_in index_of seen_or walk_from walk listed_places probes decides in_turn next_steps next
    next_in last_after first_from list_next in_sequence is_none goes_on pairs_from read_steps read_from read_from_in readout_reply readout_after list_readout list_read_from id_after
    last_in last_up_to bit_after dense_with place_with pair_from pair_steps pair_at pair_at_in list_pair from_value between_steps_from first_between_from
    first_between_from_in underneath on_top look_up_layered look_up_layered_in lists_answer layered_kind layered_ordinal layered_value layered_column machine_words
    correction_words page_by layered_page layered_page_in sum_of layered_reply layered_after lists_place lists_page machine_formula correction_formula next_from sooner
    next_of_both none_next steps_on layered_steps both_then answering_from column_from column_from_in read_layered read_layered_in layered_read_reply layered_read_after
    pairs_of corrected corrected_by merged_from list_read lists_read pair_with reading_of calls_from scan_from runs_from between_steps first_between first_between_in first_in insert insert_all table_of code_in
    table_fields table_entry table_section table_value ascends_from ascends is_in all_in value_share shorter table_ok tabled plan_ok plan_of planned plan_edition
    chosen plan asc_from set_kind begins past missing set_list set_data set_block_as set_block set_bytes set_write list_length_ok set_data_bytes set_data_fits
    set_data_ok set_places data_from length_from kind_from block_from set_run blocks_from set_ids set_check listed member_in set_find place_kind place_ordinal
    place_value place_words page page_words page_reply page_after fixed_at numbers_in end_in entry_in ranks_from places_ok ones_ok ranks_ok first_failed tests_at
    unless_fault judge_from jumps_at jumps_in judge_entries judge_rest judge judge_section
computing = Unit {0}
