-- The codec and the tests of an edition by how it lays its values out. Assumes nothing.
use Rattle.format.specs.Kit.{◌≡◌, refl, sym, ap, ◌∙◌, Bool, List, ℕ, arith}
use Rattle.format.specs.Codec.{Fields, Codec, scaled}
use Rattle.format.specs.Editions.{Edition, plain, lucene, runs, table, codec}
use Rattle.packings.specs.Packings.{packing_of}
use Rattle.scaled_check.specs.ValuesOk.{values_ok}
use Rattle.run_check.specs.RunsOk as Runs
use Rattle.table_check.specs.ValuesOk as Table
use Rattle.values.specs.declared.Layout as La
use Rattle.values.specs.Edition.{layout_of, tests}

abbrev pub codec_by : La.Layout → Codec
codec_by (La.Layout.Whole o) = scaled (packing_of o)
codec_by La.Layout.Runs = codec runs
codec_by La.Layout.Table = codec table

laid : (ed : Edition) → codec ed ≡ codec_by (layout_of ed)
unfolding codec
laid plain = refl
laid lucene = refl
laid runs = refl
laid table = refl

only : (ed : Edition) → layout_of ed ≡ La.Layout.Table → ed ≡ table
only plain e = absurd (let z : ◌≡◌ {A = ℕ} 0 1 = cc in omega arith)
only lucene e = absurd (let z : ◌≡◌ {A = ℕ} 0 1 = cc in omega arith)
only runs e = absurd (let z : ◌≡◌ {A = ℕ} 0 1 = cc in omega arith)
only table e = refl

abbrev pub tests_by : La.Layout → ℕ → Fields → List ℕ → Bool
tests_by (La.Layout.Whole o) = values_ok o
tests_by La.Layout.Runs = Runs.values_ok
tests_by La.Layout.Table = Table.values_ok

tested : (ed : Edition) → tests ed ≡ tests_by (layout_of ed)
unfolding tests
tested plain = refl
tested lucene = refl
tested runs = refl
tested table = refl

-- a layout that was told for an edition, and found to be this one
module _ (ed : Edition) {r l : La.Layout} (told : r ≡ layout_of ed) (e : r ≡ l) where
  pub codec_is : codec ed ≡ codec_by l
  codec_is = laid ed ∙ ap codec_by (sym told ∙ e)

  pub tests_are : tests ed ≡ tests_by l
  tests_are = tested ed ∙ ap tests_by (sym told ∙ e)

-- the only one with a table
pub by_table : (ed : Edition) {r : La.Layout} → r ≡ layout_of ed → r ≡ La.Layout.Table → ed ≡ table
by_table ed told e = only ed (sym told ∙ e)
