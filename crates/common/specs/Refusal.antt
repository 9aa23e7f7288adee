-- The numbers of the refusals.
use Rattle.std.specs.Prelude.{ℕ}
use Rattle.common.specs.declared.Refusal.{Refusal}
use Rattle.common.specs.declared.Refusal.TheVariants.{Singular, NotConverged, OutsideLimits, Overflow, SingularQ, SymmetryBroken}
use Rattle.common.specs.declared.Refusal.TheVariants.{TooManyRotations, TooManyForInversion, BadGridType, NotUnimodularQ}
use Rattle.common.specs.declared.Refusal.TheVariants.{SingularReciprocalLattice, SearchFailed, WrongLength, OutsideTable}
use Rattle.common.specs.declared.Refusal.TheVariants.{BadHeader, OtherSizes, OtherGrid, NotGroup, CouldNotStand, InvertedRange}

abbrev pub number_of : Refusal → ℕ
-- `snf3x3`: the determinant is 0
number_of Singular = 1
-- `snf3x3`: 100 rounds end without a diagonal; never given (snf3x3/specs/FewRounds)
number_of NotConverged = 2
-- an input lies outside the limits
number_of OutsideLimits = 3
-- `snf3x3`: a number that the Rust works out, in its order, leaves 64 signed bits
number_of Overflow = 4
-- `transform_rotations`: det Q is 0
number_of SingularQ = 5
-- `transform_rotations`: an entry is over 1e-5 from its rounded value
number_of SymmetryBroken = 6
-- a 49th distinct rotation
number_of TooManyRotations = 7
-- time reversal, no inversion in the list, over 24 distinct
number_of TooManyForInversion = 8
-- a grid type that is neither 1 nor 2
number_of BadGridType = 9
-- det Q is not 1 or -1
number_of NotUnimodularQ = 10
-- the lattice's determinant is 0
number_of SingularReciprocalLattice = 11
-- images: at some point the search range leaves -16..16 on an axis, or no candidate is accepted
number_of SearchFailed = 12
-- a lent slice has another length than the call's sizes fix, or an image output is too short
number_of WrongLength = 13
-- an index outside the slice that it points into, an image map value outside 0..2^40, or an address read outside plus or minus 10^13
number_of OutsideTable = 14
-- job file: wrong header
number_of BadHeader = 15
-- the lengths handed to `bz_grid_fill` are not those of its input
number_of OtherSizes = 16
-- a table's record has another diagonal, shift or type than the call
number_of OtherGrid = 17
-- the reciprocal step of the chain: identity missing, a repeat, a determinant other than 1 or -1, or a product not in the list
number_of NotGroup = 18
-- `convert_bz_grid`: a table that could not stand
number_of CouldNotStand = 19
-- `mark_candidates`: a lowest inner product above its highest
number_of InvertedRange = 20
