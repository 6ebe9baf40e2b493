-- What is tested cell by cell makes a quotient.
use Rattle.std.specs.Prelude.{◌≡◌, ℕ, ◌+◌, ◌<◌, ◌≤◌, ◌⊎◌, Bool, true, false, IsTrue, ◌↔◌, List, length, Some, slice_get}
use Rattle.std.proofs.Common.{arith, sym, ap, subst, inl, inr, ◌∙◌}
use Rattle.std.proofs.lemmas.Bool.{cases_order}
use Rattle.std.proofs.lemmas.Option.{same_Some, slice_get_within, get_or_from_slice_get}
use Rattle.gos_netlist.specs.Nets.{Input, Cell}
use Rattle.gos_netlist.specs.Settling.{at}
use Rattle.gos_netlist.specs.Renamed.{with_renamed}
use Rattle.gos_netcheck.specs.Rules.{KeptBefore, Kept}
use Rattle.gos_netcheck.proofs.RuleLemmas.{kept_more, kept_all}
use Rattle.gos_tidy.specs.Mapped.{Stands}
use Rattle.gos_tidy.specs.Reduced.{HasWidth, Stays, IsQuotient}
use Rattle.gos_tidy.specs.inner.Reading.{IsShortOf}
use Rattle.gos_tidy.specs.inner.Roots.{IsPlaced, StaysAs, IsRoot, AreRoots}
use Rattle.gos_tidy.proofs.ReadLemmas.{short_read, stays_read, closed_short}

-- a test that fails
pub not_so : (P : Type 0) (b : Bool) → (IsTrue b ↔ P) → b ≡ false → P → ⊥
not_so P true tells e p = cc
not_so P false tells e p = let so = tells.1 p in cc

stands_of : (others : List Cell) (f : ℕ → ℕ) (n : ℕ) (c : Cell) → Stays others f n c → Stands others f n c
stands_of others f n c (inl kept) = inl kept
stands_of others f n c (inr (inl folded)) = inr (inl folded)
stands_of others f n c (inr (inr closed)) = inr (inr (closed_short others f n c.width c.gate closed))

pub placed_short : (others : List Cell) (f : ℕ → ℕ) (roots : List ℕ) (n t : ℕ) (c e : Cell) → t ≡ f n → e ≡ with_renamed f c → HasWidth others t c.width
    → (c.gate ≡ Input → ⊥) → IsShortOf others t e.width e.gate → IsPlaced others f roots n c
placed_short others f roots n t c e same is width other short =
    let there = subst (λ (x : ℕ). IsShortOf others x e.width e.gate) same short in
    let it = short_read others f n c.width c.gate (subst (λ (x : Cell). IsShortOf others (f n) x.width x.gate) is there) in
    record {
      stands = inr (inr it);
      width = subst (λ (x : ℕ). HasWidth others x c.width) same width;
      input = λ i. absurd (other i);
      early = inl it;
    }

pub placed_stays : (others : List Cell) (f : ℕ → ℕ) (roots : List ℕ) (n t : ℕ) (c e : Cell) → t ≡ f n → e ≡ with_renamed f c → HasWidth others t c.width
    → (c.gate ≡ Input → ⊥) → at roots t ≤ n → StaysAs others t e → IsPlaced others f roots n c
placed_stays others f roots n t c e same is width other early stays =
    let there = subst (λ (x : ℕ). StaysAs others x e) same stays in
    record {
      stands = stands_of others f n c (stays_read others f n c (subst (λ (x : Cell). StaysAs others (f n) x) is there));
      width = subst (λ (x : ℕ). HasWidth others x c.width) same width;
      input = λ i. absurd (other i);
      early = inr (subst (λ (x : ℕ). at roots x ≤ n) same early);
    }

pub root_right : (cells others : List Cell) (f : ℕ → ℕ) (i m t : ℕ) (c e : Cell) → slice_get cells m ≡ Some c → t ≡ f m → e ≡ with_renamed f c → t ≡ i
    → StaysAs others t e → IsRoot cells others f i m
root_right cells others f i m t c e there same is here stays =
    let it = subst (λ (x : ℕ). StaysAs others x e) same stays in
    (sym same ∙ here, c, there, stays_read others f m c (subst (λ (x : Cell). StaysAs others (f m) x) is it))

-- the first roots are right, rise, and are below a bound
pub record AreRootsBefore (cells others : List Cell) (f : ℕ → ℕ) (roots : List ℕ) (place least : ℕ) : Type 0 where
  pub each : KeptBefore (IsRoot cells others f) roots place
  pub low : KeptBefore (λ _ m. m < least) roots place
  pub rises : (i j m n : ℕ) → i < j → j < place → slice_get roots i ≡ Some m → slice_get roots j ≡ Some n → m < n

pub one_more_root : (cells others : List Cell) (f : ℕ → ℕ) (roots : List ℕ) (place least root : ℕ) → AreRootsBefore cells others f roots place least
    → slice_get roots place ≡ Some root → least ≤ root → IsRoot cells others f place root
    → AreRootsBefore cells others f roots (place + 1) (root + 1)
one_more_root cells others f roots place least root before is above right = record {
  each = kept_more (IsRoot cells others f) roots place root is before.each right;
  low = kept_more (λ _ m. m < root + 1) roots place root is
      (λ k m l at. let below : m < least = before.low k m l at in omega (arith, below, above)) (omega arith);
  rises = λ i j m n less l first second. by_place i j m n less l first second;
}
  where
    by_order : (i j m n : ℕ) → i < j → slice_get roots i ≡ Some m → slice_get roots j ≡ Some n → (j < place) ⊎ (j ≡ place) → m < n
    by_order i j m n less first second (inl earlier) = before.rises i j m n less earlier first second
    by_order i j m n less first second (inr here) =
        let last : n ≡ root = same_Some n root (sym second ∙ ap (slice_get roots) here ∙ is) in
        let below : m < least = before.low i m (omega (arith, less, here)) first in
        omega (arith, last, below, above)

    split : (j : ℕ) → j < place + 1 → (j ≡ place) ⊎ ((j < place) ⊎ (place < j)) → (j < place) ⊎ (j ≡ place)
    split j l (inl here) = inr here
    split j l (inr (inl earlier)) = inl earlier
    split j l (inr (inr later)) = absurd (omega (arith, l, later))

    by_place : (i j m n : ℕ) → i < j → j < place + 1 → slice_get roots i ≡ Some m → slice_get roots j ≡ Some n → m < n
    by_place i j m n less l first second = by_order i j m n less first second (split j l (cases_order j place))

pub all_roots : (cells others : List Cell) (f : ℕ → ℕ) (roots : List ℕ) (place least : ℕ) → length roots ≤ place
    → AreRootsBefore cells others f roots place least → AreRoots cells others f roots
all_roots cells others f roots place least l before = record {
  each = kept_all (IsRoot cells others f) roots place l before.each;
  rises = λ i j m n less first second. before.rises i j m n less (omega (arith, l, slice_get_within roots j n second)) first second;
}

-- all of it together
pub quotient_right : (cells others : List Cell) (f : ℕ → ℕ) (roots : List ℕ) → length roots ≡ length others
    → Kept (IsPlaced others f roots) cells → AreRoots cells others f roots → IsQuotient cells others f roots
quotient_right cells others f roots each placed right = record {
  mapped = λ n c is. (placed n c is).stands;
  widths = λ n c is. (placed n c is).width;
  inputs = λ m n c e is there input other same. sym ((placed m c is).input input) ∙ ap (at roots) same ∙ (placed n e there).input other;
  each = each;
  rises = right.rises;
  stays = λ i m is. right.each i m is;
  first = λ i m n c is there goes stays long. by_early n m (by_root i m n is goes) long (placed n c there).early;
}
  where
    by_root : (i m n : ℕ) → slice_get roots i ≡ Some m → f n ≡ i → at roots (f n) ≡ m
    by_root i m n is goes = ap (at roots) goes ∙ get_or_from_slice_get roots i m 0 is

    by_early : {S : Type 0} (n m : ℕ) → at roots (f n) ≡ m → (S → ⊥) → S ⊎ (at roots (f n) ≤ n) → m ≤ n
    by_early n m same long (inl short) = absurd (long short)
    by_early n m same long (inr early) = omega (arith, same, early)
