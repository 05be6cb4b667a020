-- What the code's kinds stand for. Assumes nothing.
use Rattle.format.specs.Ids as F
use Rattle.blocks.specs.declared.Kind as K

abbrev pub kind_is : K.Kind → F.Kind
kind_is K.Kind.Sparse = F.sparse
kind_is K.Kind.Dense = F.dense
kind_is K.Kind.All = F.all
