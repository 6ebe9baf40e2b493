-- How many points the handshakes of a node's parts lead to.
--
-- Read first: Wiring.
use Rattle.std.specs.Prelude.{ℕ, zero, suc, ◌+◌, ◌-◌, ◌≤◌, List, [], ◌∷◌, length, take, drop}
use Rattle.std.proofs.Common.{arith, length-append}
use Rattle.gos_types.specs.Types.{Type'}
use Rattle.gos_check.specs.Nodes.{OneForm, OfFst, OfSnd, OfDeref, OfNot, TwoForm, OfApp, OfBoth, OfSeq, OfPar, OfWhile, OfAssign, OfBin}
use Rattle.gos_ties.specs.declared.points.Place.TheVariants as places
use Rattle.gos_ties.specs.declared.points.Point.{Point}
use Rattle.gos_realises.specs.realises.Regular.{count}
use Rattle.gos_compile.specs.Wiring.{row, one_out, first_out, second_out}
use Rattle.gos_compile.proofs.TallyLemmas.{row_length}

pub take_shorter : (k : ℕ) (ps : List Point) → length (take k ps) ≤ length ps
take_shorter zero [] = omega arith
take_shorter zero (p ∷ ps) = omega arith
take_shorter (suc k) [] = omega arith
take_shorter (suc k) (p ∷ ps) = let rest = take_shorter k ps in omega (arith, rest)

pub drop_shorter : (k : ℕ) (ps : List Point) → length (drop k ps) ≤ length ps
drop_shorter zero [] = omega arith
drop_shorter zero (p ∷ ps) = omega arith
drop_shorter (suc k) [] = omega arith
drop_shorter (suc k) (p ∷ ps) = let rest = drop_shorter k ps in omega (arith, rest)

pub one_few : (f : OneForm) (t u : Type') (i j : ℕ) (out : List Point) → length (one_out f t u i j out) ≤ length out + 2 + count u
one_few OfFst t u i j out =
    let all = length-append out (row (places.Node j) 0 (count u - count t)) in
    let size = row_length (places.Node j) 0 (count u - count t) in
    omega (arith, all, size)
one_few OfSnd t u i j out =
    let all = length-append (row (places.Node j) 0 (count u - count t)) out in
    let size = row_length (places.Node j) 0 (count u - count t) in
    omega (arith, all, size)
one_few OfDeref t u i j out = omega arith
one_few OfNot t u i j out = omega arith

pub first_few : (f : TwoForm) (u v : Type') (i j : ℕ) (out : List Point) → length (first_out f u v i j out) ≤ length out + 2 + count v
first_few OfApp u v i j out =
    let all = length-append (row (places.Node j) 0 (count v)) out in let size = row_length (places.Node j) 0 (count v) in omega (arith, all, size)
first_few OfBoth u v i j out = let size = take_shorter (count u) out in omega (arith, size)
first_few OfSeq u v i j out = omega arith
first_few OfPar u v i j out = omega arith
first_few OfWhile u v i j out = omega arith
first_few OfAssign u v i j out = omega arith
first_few (OfBin op) u v i j out = omega arith

pub second_few : (f : TwoForm) (u v : Type') (i j : ℕ) (out : List Point) → length (second_out f u v i j out) ≤ length out + 2 + count v
second_few OfApp u v i j out = let size = row_length (places.Node j) 0 (count v) in omega (arith, size)
second_few OfBoth u v i j out = let size = drop_shorter (count u) out in omega (arith, size)
second_few OfSeq u v i j out = omega arith
second_few OfPar u v i j out = omega arith
second_few OfWhile u v i j out = omega arith
second_few OfAssign u v i j out = omega arith
second_few (OfBin op) u v i j out = omega arith
