-- What follows a change of values: marks and notes.
use Rattle.std.specs.Prelude.{◌≡◌, ◌≢◌, ℕ, ◌+◌, ◌<◌, ◌⊎◌, List, [], ◌∷◌, ◌++◌, All, Some, drop, length, set, slice_get}
use Rattle.std.proofs.Common.{arith, ap, sym, subst, inl, inr, ◌∙◌, get_or-set_same, get_or-set_other}
use Rattle.std.proofs.lemmas.Bool.{cases_eq}
use Rattle.std.proofs.lemmas.List.{drop_more}
use Rattle.std.proofs.lemmas.List.Elements.{All-cons, All-contains, All-push, All-weaker}
use Rattle.std.proofs.lemmas.Option.{get_or_from_slice_get, slice_get_within}
use Rattle.gos_netlist.specs.Settling.{Numbers, at}
use Rattle.gos_sim.specs.declared.program.Latch.{Latch}
use Rattle.gos_sim.specs.declared.readers.Readers.{Readers}
use Rattle.gos_sim.specs.declared.wake.Wake.{Wake}
use Rattle.gos_sim.specs.inner.Program.{HasLatch, IsLatchWithin}
use Rattle.gos_sim.specs.inner.Marks.{IsUnmarked, KeepsMarks}
use Rattle.gos_sim.specs.inner.Readers.{AreLinked, Reads}
use Rattle.gos_sim.specs.inner.Spots.{KeepsOthersThan}
use Rattle.gos_sim.specs.inner.Active.{Follows, IsWake, Lacks}

-- a place may have another value: its readers are marked, and it is noted
pub follows_put : (old new : Wake) (v w : Numbers) (place : ℕ) → KeepsOthersThan place v w → new.readers ≡ old.readers
    → length new.marks.words.items ≡ length old.marks.words.items → KeepsMarks old.marks.words.items new.marks.words.items
    → ((item : ℕ) → Reads old.readers place item → IsUnmarked new.marks.words.items item → ⊥)
    → ((p : ℕ) → Lacks new.touched p → place ≢ p) → ((p : ℕ) → Lacks new.touched p → Lacks old.touched p)
    → Follows old new v w
follows_put old new v w place others readers each kept marked noted lacked =
    record {
      readers = readers;
      each = each;
      kept = kept;
      marked = λ p item reads bare. by_place p item reads bare (cases_eq p place);
      noted = λ p lacks. (lacked p lacks, others p (noted p lacks));
    }
  where
    by_place : (p item : ℕ) → Reads old.readers p item → IsUnmarked new.marks.words.items item → (p ≡ place) ⊎ (p ≢ place)
        → at w p ≡ at v p
    by_place p item reads bare (inl same) = absurd (marked item (subst (λ (q : ℕ). Reads old.readers q item) same reads) bare)
    by_place p item reads bare (inr apart) = others p (λ same. apart (sym same))

-- a value is put there
pub kept_put : (v : Numbers) (place value : ℕ) → KeepsOthersThan place v (set v place value)
kept_put v place value = λ p apart. get_or-set_other v place p value 0 (λ same. apart (sym same))

-- and one after another
pub follows_on : (old mid new : Wake) (u v w : Numbers) → Follows old mid u v → Follows mid new v w → Follows old new u w
follows_on old mid new u v w first second =
    record {
      readers = second.readers ∙ first.readers;
      each = second.each ∙ first.each;
      kept = λ item bare. first.kept item (second.kept item bare);
      marked = λ place item reads bare.
          second.marked place item (subst (λ rs. Reads rs place item) (sym first.readers) reads) bare ∙ first.marked place item reads (second.kept item bare);
      noted = λ place lacks.
          let later = second.noted place lacks in
          let sooner = first.noted place later.0 in
          (sooner.0, later.1 ∙ sooner.1);
    }

-- a wake stays one where a place is noted
pub wake_put : (count : ℕ) (old new : Wake) (place : ℕ) → new.readers ≡ old.readers → length new.marks.words.items ≡ length old.marks.words.items
    → place < count → (new.touched.places.items ≡ old.touched.places.items) ⊎ (new.touched.places.items ≡ old.touched.places.items ++ place ∷ [])
    → IsWake count old → IsWake count new
wake_put count old new place readers each low listed wake =
    record {
      each = ap (λ (rs : Readers). length rs.heads.items) readers ∙ wake.each;
      linked = subst (λ (n : ℕ). AreLinked n new.readers) (sym each) (subst (AreLinked (length old.marks.words.items)) (sym readers) wake.linked);
      few = omega (arith, each, wake.few);
      within = by_list listed;
    }
  where
    by_list : (new.touched.places.items ≡ old.touched.places.items) ⊎ (new.touched.places.items ≡ old.touched.places.items ++ place ∷ [])
        → All (λ p. p < count) new.touched.places.items
    by_list (inl same) = subst (All (λ p. p < count)) (sym same) wake.within
    by_list (inr more) = subst (All (λ p. p < count)) (sym more) (All-push (λ p. p < count) old.touched.places.items place wake.within low)

-- values that were loaded as far as a list of places: those that stand there no more have what the registers hold
abbrev pub LoadedButListed : List ℕ → Numbers → Numbers → ℕ → Type 0
LoadedButListed places registers v p = All (λ q. q ≢ p) places → at v p ≡ at registers p

-- one place more
pub listed_more : (places : List ℕ) (registers v : Numbers) (k place p : ℕ) → slice_get places k ≡ Some place → place < length v
    → LoadedButListed (drop k places) registers v p → LoadedButListed (drop (k + 1) places) registers (set v place (at registers place)) p
listed_more places registers v k place p is low before rest = by_place (cases_eq p place)
  where
    by_place : (p ≡ place) ⊎ (p ≢ place) → at (set v place (at registers place)) p ≡ at registers p
    by_place (inl same) =
        ap (at (set v place (at registers place))) same ∙ (get_or-set_same v place (at registers place) 0 low ∙ ap (at registers) (sym same))
    by_place (inr apart) =
        let below : k < length places = slice_get_within places k place is in
        let split : drop k places ≡ place ∷ drop (k + 1) places =
        drop_more places k place below ∙ ap (λ (q : ℕ). q ∷ drop (k + 1) places) (get_or_from_slice_get places k place place is) in
        get_or-set_other v place p (at registers place) 0 apart
        ∙ before (subst (All (λ q. q ≢ p)) (sym split) (All-cons (λ q. q ≢ p) place (drop (k + 1) places) (λ same. apart (sym same)) rest))

-- noted registers are nets below a count
pub listed_below : (count : ℕ) (latches : List Latch) (places : List ℕ) → All (IsLatchWithin count) latches → All (HasLatch latches) places
    → All (λ p. p < count) places
listed_below count latches places within listed = All-weaker (HasLatch latches) (λ p. p < count) low places listed
  where
    low : (p : ℕ) → HasLatch latches p → p < count
    low p (l, has, same) = subst (λ (n : ℕ). n < count) same (All-contains (IsLatchWithin count) latches l within has).net

-- and no net that is no register's is one
pub listed_apart : (latches : List Latch) (places : List ℕ) (n : ℕ) → All (λ l. l.net ≢ n) latches → All (HasLatch latches) places → All (λ q. q ≢ n) places
listed_apart latches places n free listed = All-weaker (HasLatch latches) (λ q. q ≢ n) apart places listed
  where
    apart : (q : ℕ) → HasLatch latches q → q ≢ n
    apart q (l, has, same) e = All-contains (λ (m : Latch). m.net ≢ n) latches l free has (same ∙ e)
