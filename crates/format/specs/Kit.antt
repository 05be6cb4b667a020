-- What the definitions and proofs take from the kit's libraries, passed on from one place.
pub use Rattle.std.specs.Prelude.{◌%◌, ◌*◌, ◌+◌, ◌-◌, ◌/◌, ◌<◌, ◌^◌, ◌≤◌, max, min, suc, zero, ℕ, Bool, ◌&&◌, ◌||◌, cond, false, not, true, ◌↔◌, ◌⊎◌, ◌≡◌, refl, T, eqb, leb, ltb, ◌+ℤ◌, ◌-ℤ◌, nat_abs, negsuc, neg_ℤ, pos, ℤ, drop, get_or, length, replicate, set, take}
pub use Rattle.std.specs.Int.{◌∣◌}
pub use Rattle.std.proofs.Common.{suc-le-suc, zero-le, inl, inr, ⊎_elim, ◌∙◌, ap, ap₂, subst, sym, add_assoc, add_comm, add-mul, add-suc, add-zero, div-add-mod', div-le_self, div-lt_iff_lt-mul, div-mul-le_self, div-one, eq-or-lt_of_le, le-div_iff_mul-le, le-mul_of_pos_right, le_of_eq, le_refl, le_trans, lt_of_le_of_lt, lt_of_lt_of_le, lt_of_not-le, mod-eq_of_lt, mod-lt, mul-add, mul_assoc, mul_comm, mul-le-mul, mul-le-mul_left, mul-le-mul_right, mul-one, mul-suc, mul-zero, one-mul, pos_of_ne-zero, pow-suc, suc-add, suc-mul, zero-add, zero-lt-suc, zero-mul, add-one, arith, leb→le, le→leb, lit<, lit≤, drop_of_length-le, length-append, length-drop, length-set, length-take, take-append-drop, pow-add, pow_mono, pow_pos, shl_exact, shl_lt, shr_lt, shr-shr, drop_at, drop-cons, drop-drop, drop-set-lt, ext_get_or, get_or-append-add, get_or-drop, get_or-set_same, get_or-take, length-take-le, take-add, take_all, take_at, get_or-set_other, take-suc-set, take-take, rules, eq-eqb, eqb-true, le-leb, le-ltb, leb-false, leb-true, lt-ltb, ltb-false, ltb-true, ne_eqb}
pub use Rattle.std.proofs.Math.Bool.{and_assoc, and-false, and-true, or_assoc, or-false, or-true}
pub use mathlib.Core.List.{List, [], ◌++◌, ◌∷◌, append_assoc, append-nil, map, reverse, reverse-cons, reverse-reverse}
unfoldable pub use Rattle.std.proofs.Math.Option.{bind, bind-eq-some_iff}
pub use Rattle.std.proofs.Math.Option.{Option, map as Option·map, some-injective as Option·some-injective, map-eq-some_iff, none, some}
pub use Rattle.std.proofs.Math.Decide.{dec_le, dec_lt, ℕ_discrete}
pub use Rattle.std.proofs.Math.Nat.{add-mul-div_left, add-mul-mod_self_left, add-sub_cancel_left, div-div-eq-div-mul, div-eq_of_lt, dvd-add, dvd_antisymm, dvd-mod_iff, dvd-mul_left, dvd-mul_right_of_dvd, dvd_refl, dvd-sub, dvd_trans, dvd-zero, eq_of_mul-eq-mul_left, le_of_dvd, le_of_mul-le-mul_left, mod-eq-sub-div-mul, mod-one, mul-div_cancel', mul-div_cancel_left, mul-dvd-mul_left, one-dvd, one-le-pow, pos_of_dvd_of_pos, pow-succ', pow-zero, sub-zero, zero-div, zero-mod}
pub use Rattle.std.proofs.Math.Arith.{digits_div, digits_lt, digits_mod, mod-mul}
pub use Rattle.std.proofs.lemmas.Nat.{and_mask, or_block, or_shifted, leading_le, ones_cat, ones-le, trailing_le, mod-pow-add, shl-shr}
pub use Rattle.std.specs.Int.Bits.{and_self, and_step, bit_and, bit_or, or_self, or_zero_r}
unfoldable pub use Rattle.std.specs.Int.Count.{count_leading_zeros, ones, ones_in, count_trailing_zeros}
pub use Rattle.std.specs.Int.Count.{ones_step, under}
pub use Rattle.std.proofs.Math.Dec.{nleb→lt}
pub use Rattle.std.proofs.Math.IntN.{neg_ℤ-+ℤ, neg_ℤ-neg_ℤ, sub_ℕ, +ℤ_assoc, +ℤ_comm, +ℤ_idl, +ℤ_idr, +ℤ_invl, +ℤ_invr, +ℤ-neg_ℤ_cancel, -ℤ-+ℤ_cancel}
pub use Rattle.std.proofs.Math.ListN.{get_or-append as List·getD-append, get_or-eq_default as List·getD-eq-default, get_or-map as List·getD-map}
pub use Rattle.std.proofs.lemmas.List.{get_or-replicate, length-map, length-replicate, length-reverse, drop-append-le, set_comm, take-append-le}
pub use Rattle.std.proofs.Math.Pow.{field, high, low, mod-mod-pow, ones_lt, ones_split, pow-lt, split}
pub use Rattle.std.proofs.Math.Seq.{drop-append_seam, drop-length, length-sets}
pub use Rattle.std.proofs.lemmas.List.Edits.{sets, sets-eq}
pub use Rattle.std.specs.Int.Signed.{le_z, lt_z, mag, non_neg, pos-nat_abs}
pub use Rattle.std.proofs.lemmas.Bool.{eqb-false, lt-leb, not-false, not-true}
pub use borrow.Fn.Kinds.{In}
pub use borrow.Fn.PlainCycle.{Measures, and, falls, is}
pub use borrow.Rule.Slice.PartMut.{Post-is, post_of, put_mid}
pub use Rattle.std.specs.Borrow.{Bor, MutBor}
