-- What it means that questions, one after another, are answered.
use Rattle.std.specs.Prelude.{◌≡◌, ◌≤◌, Bool, true, false, Ok, Err, if◌then◌else◌, nat_lt}
use Rattle.std.proofs.Common.{arith, refl, ap}
use Rattle.std.proofs.lemmas.Bool.Decides.{nat_tests}
use Rattle.gos_lex.specs.declared.token.Span.{Span}
use Rattle.gos_types.specs.Types.{Type', Com, Exp, Var, Pair, Fun, IsDone}
use Rattle.gos_syntax.specs.Trees.{Tree}
use Rattle.gos_model.specs.Weight.{count}
use Rattle.gos_check.specs.Faults.{Fault, Found, after}
use Rattle.gos_check.specs.Written.{small}
use Rattle.gos_check.specs.Free.{free, apart}
use Rattle.gos_check.specs.Demands.{same_type, demanded, done}
use Rattle.gos_check.specs.Judging.{of_two, of_three, separate, sized}
use Rattle.gos_check.proofs.TypeLemmas.{one_of_same}

-- both questions are answered
pub after_is : {A B : Type 0} (found : Found A) (next : A → Found B) (b : B) → after found next ≡ Ok b → (a : A) × (found ≡ Ok a) × (next a ≡ Ok b)
after_is (Ok a) next b h = (a, refl, h)
after_is (Err fault) next b h = cc

-- a test that is answered holds
pub if_ok : {A : Type 0} (test : Bool) (a b : A) (fault : Fault) → (if test then Ok a else Err fault) ≡ Ok b → (test ≡ true) × (a ≡ b)
if_ok true a b fault h = (refl, (cc))
if_ok false a b fault h = cc

-- a test that must fail is answered where it fails
pub unless_ok : {A : Type 0} (test : Bool) (a b : A) (fault : Fault) → (if test then Err fault else Ok a) ≡ Ok b → (test ≡ false) × (a ≡ b)
unless_ok true a b fault h = cc
unless_ok false a b fault h = (refl, (cc))

pub small_is : (s : Span) (t u : Type') → small s t ≡ Ok u → (count t ≤ 64) × (t ≡ u)
small_is s t u h = let p = unless_ok (nat_lt 64 (count t)) t u _ h in (grind (arith, nat_tests), p.1)

pub sized_is : (s : Span) (found : Found Type') (t : Type') → sized s found ≡ Ok t → (found ≡ Ok t) × (count t ≤ 64)
sized_is s (Ok u) t h = let p = small_is s u t h in (ap Ok p.1, (rw (← p.1) p.0))
sized_is s (Err fault) t h = cc

pub demanded_is : (s : Span) (want got t : Type') → demanded s want got ≡ Ok t → (want ≡ got) × (got ≡ t)
demanded_is s want got t h = let p = if_ok (same_type want got) got t _ h in (one_of_same want got p.0, p.1)

pub done_is : (s : Span) (t u : Type') → done s t ≡ Ok u → IsDone t × (t ≡ u)
done_is s Com u h = (tt, (cc))
done_is s (Exp w) u h = (tt, (cc))
done_is s (Var w) u h = cc
done_is s (Pair a b) u h = cc
done_is s (Fun a b) u h = cc

pub two_is : (m n : Found Type') (rule : Type' → Type' → Found Type') (t : Type') → of_two m n rule ≡ Ok t
    → (a : Type') × (b : Type') × (m ≡ Ok a) × (n ≡ Ok b) × (rule a b ≡ Ok t)
two_is (Ok a) (Ok b) rule t h = (a, b, refl, refl, h)
two_is (Ok a) (Err fault) rule t h = cc
two_is (Err fault) n rule t h = cc

pub three_is : (m n p : Found Type') (rule : Type' → Type' → Type' → Found Type') (t : Type') → of_three m n p rule ≡ Ok t
    → (a : Type') × (b : Type') × (c : Type') × (m ≡ Ok a) × (n ≡ Ok b) × (p ≡ Ok c) × (rule a b c ≡ Ok t)
three_is (Ok a) (Ok b) (Ok c) rule t h = (a, b, c, refl, refl, refl, h)
three_is (Ok a) (Ok b) (Err fault) rule t h = cc
three_is (Ok a) (Err fault) p rule t h = cc
three_is (Err fault) n p rule t h = cc

pub separate_is : (m n : Tree) (found : Found Type') (t : Type') → separate m n found ≡ Ok t → (found ≡ Ok t) × (apart (free m) (free n) ≡ Ok tt)
separate_is m n (Ok u) t h = let p = after_is (apart (free m) (free n)) (λ _. Ok u) t h in (p.2, p.1)
separate_is m n (Err fault) t h = cc
