-- Levels counted one after another, each by its chain of nets.
use Rattle.std.specs.Prelude.{◌≡◌, ◌≢◌, ℕ, zero, suc, ◌+◌, ◌<◌, ◌≤◌, ◌⊎◌, ◌||◌, Bool, true, false, IsTrue, IsFalse, List, [], ◌∷◌, Contains, Some, slice_get, length}
use Rattle.std.proofs.Common.{arith, refl, sym, ap, subst, inl, inr, ◌∙◌}
use Rattle.std.proofs.Math.Nat.{eq-or-lt_of_le}
use Rattle.std.proofs.lemmas.Bool.{cases_order}
use Rattle.std.proofs.lemmas.Bool.Decides.{nat_tests}
use Rattle.std.proofs.lemmas.List.Elements.{All-get_or}
use Rattle.std.proofs.lemmas.Option.{slice_get-get_or, slice_get_within}
use Rattle.gos_netlist.specs.Nets.{Cell, pins}
use Rattle.gos_netlist.specs.Cycles.{Distinct}
use Rattle.gos_netlist.specs.Settling.{Numbers, at}
use Rattle.gos_netcheck.specs.Levels.{AreLevels}
use Rattle.gos_sim.specs.declared.chains.Chains.{Chains}
use Rattle.gos_sim.specs.Visits.{IsVisited, VisitsLevels}
use Rattle.gos_sim.specs.inner.Chains.{IsLast}
use Rattle.gos_sim.specs.inner.Counting.{ChainLevels, CountsVisited, HasVisit, LacksVisit, has_changed, one_has_changed}
use Rattle.gos_sim.proofs.PlaceLemmas.{same_element}

-- what the tests say
pub differs : (before values : Numbers) (a : ℕ) → IsTrue (has_changed before values a) → at values a ≢ at before a
differs before values a h same = grind (arith, nat_tests, h, same)

pub same_value : (before values : Numbers) (a : ℕ) → IsFalse (has_changed before values a) → at values a ≢ at before a → ⊥
same_value before values a h apart = grind (arith, nat_tests, h, apart)

-- one of these nets, with a value that differs
record HasChange (before values : Numbers) (ns : List ℕ) : Type 0 where
  pin : ℕ
  among : Contains ns pin
  differs : at values pin ≢ at before pin

either : (x y : Bool) → IsTrue (x || y) → IsTrue x ⊎ IsTrue y
either true y h = inl refl
either false y h = inr h

neither : (x y : Bool) → IsFalse (x || y) → IsFalse x × IsFalse y
neither true y h = absurd (cc)
neither false y h = (refl, h)

change_of : (before values : Numbers) (ns : List ℕ) → IsTrue (one_has_changed before values ns) → HasChange before values ns
change_of before values [] h = absurd (cc)
change_of before values (a ∷ []) h = record { pin = a; among = (0, omega arith, refl); differs = differs before values a h }
change_of before values (a ∷ b ∷ ns) h = by_first (either (has_changed before values a) (one_has_changed before values (b ∷ ns)) h) (λ rest. change_of before values (b ∷ ns) rest)
  where
    by_first : IsTrue (has_changed before values a) ⊎ IsTrue (one_has_changed before values (b ∷ ns)) → (IsTrue (one_has_changed before values (b ∷ ns)) → HasChange before values (b ∷ ns)) → HasChange before values (a ∷ b ∷ ns)
    by_first (inl first) rest = record { pin = a; among = (0, omega arith, refl); differs = differs before values a first }
    by_first (inr other) rest = let found = rest other in record { pin = found.pin; among = (suc found.among.0, omega (arith, found.among.1), found.among.2); differs = found.differs }

no_change : (before values : Numbers) (ns : List ℕ) → IsFalse (one_has_changed before values ns) → (a : ℕ) → Contains ns a → at values a ≢ at before a → ⊥
no_change before values [] h a (k, low, is) apart = omega (arith, low)
no_change before values (b ∷ []) h a (zero, low, is) apart = same_value before values a (subst (λ (n : ℕ). IsFalse (has_changed before values n)) is h) apart
no_change before values (b ∷ []) h a (suc k, low, is) apart = omega (arith, low)
no_change before values (b ∷ c ∷ ns) h a (zero, low, is) apart =
    same_value before values a (subst (λ (n : ℕ). IsFalse (has_changed before values n)) is (neither (has_changed before values b) (one_has_changed before values (c ∷ ns)) h).0) apart
no_change before values (b ∷ c ∷ ns) h a (suc k, low, is) apart =
    no_change before values (c ∷ ns) (neither (has_changed before values b) (one_has_changed before values (c ∷ ns)) h).1 a (k, omega (arith, low), is) apart

-- The nets from a place on of a level, whatever levels are chained, read nothing that differs; and the link leads to the level's next one.
pub record IsQuietFrom (chains : Chains) (levels : Numbers) (cells : List Cell) (before values : Numbers) (level link : ℕ) : Type 0 where
  pub here : (n : ℕ) → link ≡ n + 1 → at levels n ≡ level
  pub quiet : (n : ℕ) (c : Cell) → link ≤ n → slice_get cells n ≡ Some c → at levels n ≡ level → IsFalse (one_has_changed before values (pins c.gate))

abbrev pub AreQuiet : Chains → List Cell → Numbers → Numbers → ℕ → ℕ → Type 0
AreQuiet chains cells before values level link =
    (levels : Numbers) → length levels ≡ length cells → ChainLevels chains levels → IsQuietFrom chains levels cells before values level link

at_level : (levels : Numbers) (n level : ℕ) → n < length levels → at levels n ≡ level → slice_get levels n ≡ Some level
at_level levels n level below is = slice_get-get_or levels n 0 below ∙ ap Some is

-- a net more is quiet
pub quiet_more : (chains : Chains) (cells : List Cell) (before values : Numbers) (level net link : ℕ) (c : Cell) → slice_get cells net ≡ Some c
    → IsFalse (one_has_changed before values (pins c.gate)) → link ≡ at chains.next.items net → AreQuiet chains cells before values level (net + 1)
    → AreQuiet chains cells before values level link
quiet_more chains cells before values level net link c at_net none is h = λ levels each chained. more levels each chained (h levels each chained)
  where
    more : (levels : Numbers) → length levels ≡ length cells → ChainLevels chains levels → IsQuietFrom chains levels cells before values level (net + 1)
        → IsQuietFrom chains levels cells before values level link
    more levels each chained now =
        record {
          here = λ n e. let low : n < length levels = omega (arith, last.within, e, below) in last.last n (at levels n) e (slice_get-get_or levels n 0 low);
          quiet = λ n d past at_n stands. by_place n d past at_n stands (cases_order n net);
        }
      where
        below : net < length levels
        below = let inside = slice_get_within cells net c at_net in omega (arith, inside, each)

        stands : at levels net ≡ level
        stands = now.here net refl

        last : IsLast (λ l. l) levels level net link
        last = subst (IsLast (λ l. l) levels level net) (sym is) (chained.chained.links net level below (at_level levels net level below stands))

        by_place : (n : ℕ) (d : Cell) → link ≤ n → slice_get cells n ≡ Some d → at levels n ≡ level → (n ≡ net) ⊎ ((n < net) ⊎ (net < n))
            → IsFalse (one_has_changed before values (pins d.gate))
        by_place n d past at_n same (inl e) =
            let one : c ≡ d = same_element cells net c d at_net (subst (λ (m : ℕ). slice_get cells m ≡ Some d) e at_n) in
            subst (λ (x : Cell). IsFalse (one_has_changed before values (pins x.gate))) one none
        by_place n d past at_n same (inr (inl less)) =
            let low : n < length levels = omega (arith, less, below) in
            absurd (last.lacks n level past less (at_level levels n level low same) refl)
        by_place n d past at_n same (inr (inr greater)) = now.quiet n d (omega (arith, greater)) at_n same

-- all nets of a level are quiet
pub lacks_visit : (chains : Chains) (cells : List Cell) (before values : Numbers) (level link : ℕ) → link ≤ 0 → AreQuiet chains cells before values level link
    → LacksVisit chains cells before values level
lacks_visit chains cells before values level link none h = λ levels each chained seen.
    let quiet = (h levels each chained).quiet seen.net seen.cell (omega (arith, none)) seen.is seen.stands in
    no_change before values (pins seen.cell.gate) quiet seen.pin seen.reads seen.differs

-- a net of the level isn't
pub has_visit : (chains : Chains) (cells : List Cell) (before values : Numbers) (level net : ℕ) (c : Cell) → slice_get cells net ≡ Some c
    → IsTrue (one_has_changed before values (pins c.gate)) → AreQuiet chains cells before values level (net + 1) → HasVisit chains cells before values level
has_visit chains cells before values level net c at_net changed h = λ levels each chained above.
    let found = change_of before values (pins c.gate) changed in
    record {
      net = net;
      cell = c;
      pin = found.pin;
      is = at_net;
      stands = (h levels each chained).here net refl;
      above = above;
      reads = found.among;
      differs = found.differs;
    }

-- the levels above 0 and below one are counted
pub record AreCounted (cells : List Cell) (levels before values : Numbers) (i count : ℕ) : Type 0 where
  pub visited : List ℕ
  pub distinct : Distinct visited
  pub counted : length visited ≡ count
  pub sound : (l : ℕ) → Contains visited l → IsVisited cells levels before values l × (l < i)
  pub whole : (l : ℕ) → IsVisited cells levels before values l → l < i → Contains visited l

abbrev pub CountsBefore : Chains → List Cell → Numbers → Numbers → ℕ → ℕ → Type 0
CountsBefore chains cells before values i count =
    (levels : Numbers) → length levels ≡ length cells → ChainLevels chains levels → AreCounted cells levels before values i count

pub counts_one : (chains : Chains) (cells : List Cell) (before values : Numbers) (i count : ℕ) → 0 < i → HasVisit chains cells before values i
    → CountsBefore chains cells before values i count → CountsBefore chains cells before values (i + 1) (count + 1)
counts_one chains cells before values i count above has h = λ levels each chained. more levels (has levels each chained above) (h levels each chained)
  where
    more : (levels : Numbers) → IsVisited cells levels before values i → AreCounted cells levels before values i count → AreCounted cells levels before values (i + 1) (count + 1)
    more levels here now =
        record {
          visited = i ∷ now.visited;
          distinct = ((λ has. let low = (now.sound i has).1 in omega (arith, low)), now.distinct);
          counted = omega (arith, now.counted);
          sound = sound;
          whole = λ l seen low. by_level l seen (eq-or-lt_of_le {n = l} {m = i} (omega (arith, low)));
        }
      where
        sound : (l : ℕ) → Contains (i ∷ now.visited) l → IsVisited cells levels before values l × (l < i + 1)
        sound l (zero, inside, same) =
            let P : ℕ → Type 0 = λ n. IsVisited cells levels before values n × (n < i + 1) in
            subst P same (here, omega arith)
        sound l (suc k, inside, same) = let (seen, low) = now.sound l (k, omega (arith, inside), same) in (seen, omega (arith, low))

        by_level : (l : ℕ) → IsVisited cells levels before values l → (l ≡ i) ⊎ (l < i) → Contains (i ∷ now.visited) l
        by_level l seen (inl e) = (zero, omega arith, sym e)
        by_level l seen (inr less) = let found = now.whole l seen less in (suc found.0, omega (arith, found.1), found.2)

pub counts_not : (chains : Chains) (cells : List Cell) (before values : Numbers) (i count : ℕ) → LacksVisit chains cells before values i
    → CountsBefore chains cells before values i count → CountsBefore chains cells before values (i + 1) count
counts_not chains cells before values i count lacks h = λ levels each chained. more levels (lacks levels each chained) (h levels each chained)
  where
    more : (levels : Numbers) → (IsVisited cells levels before values i → ⊥) → AreCounted cells levels before values i count → AreCounted cells levels before values (i + 1) count
    more levels never now =
        record {
          visited = now.visited;
          distinct = now.distinct;
          counted = now.counted;
          sound = λ l has. let (seen, low) = now.sound l has in (seen, omega (arith, low));
          whole = λ l seen low. by_level l seen (eq-or-lt_of_le {n = l} {m = i} (omega (arith, low)));
        }
      where
        by_level : (l : ℕ) → IsVisited cells levels before values l → (l ≡ i) ⊎ (l < i) → Contains now.visited l
        by_level l seen (inl e) = absurd (never (subst (λ (n : ℕ). IsVisited cells levels before values n) e seen))
        by_level l seen (inr less) = now.whole l seen less

-- all levels
pub counts_all : (chains : Chains) (cells : List Cell) (before values : Numbers) (i count : ℕ) → length chains.heads.items ≤ i
    → CountsBefore chains cells before values i count → CountsVisited chains cells before values count
counts_all chains cells before values i count end h = λ levels leveled chained. all levels leveled chained (h levels leveled.each chained)
  where
    all : (levels : Numbers) → AreLevels cells levels → ChainLevels chains levels → AreCounted cells levels before values i count → VisitsLevels cells before values count
    all levels leveled chained now =
        record {
          levels = levels;
          leveled = leveled;
          visited = now.visited;
          distinct = now.distinct;
          counted = now.counted;
          sound = λ l has. (now.sound l has).0;
          whole = λ l seen. now.whole l seen (low l seen);
        }
      where
        low : (l : ℕ) → IsVisited cells levels before values l → l < i
        low l seen =
            let inside = slice_get_within cells seen.net seen.cell seen.is in
            let below : at levels seen.net < length chains.heads.items = All-get_or (λ l. l < length chains.heads.items) levels seen.net 0 (omega (arith, inside, leveled.each)) chained.within in
            omega (arith, below, seen.stands, end)
