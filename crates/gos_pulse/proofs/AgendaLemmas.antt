-- The `at` entries of a cycle, along an agenda.
use Rattle.std.proofs.Common.{◌≡◌, ◌≢◌, inl, inr, ◌<◌, ◌≤◌, ℕ, zero, suc, Bool, true, false, ◌&&◌, ◌==◌, cond, List, [], ◌∷◌, ◌++◌, length, reverse, drop, set, get_or, refl, sym, ap, subst, ◌∙◌, arith, Some, append_assoc, append-nil, get_or-set_same, get_or-set_other}
use Rattle.std.specs.Prelude.{slice_get}
use Rattle.std.proofs.lemmas.Bool.{cases_eq}
use Rattle.std.proofs.lemmas.Option.{slice_get_within}
use Rattle.std.proofs.lemmas.List.{reverse-append, length-set, get_or_read, drop_all}
use Rattle.gos_netlist.specs.Nets.{Netlist}
use Rattle.gos_model.specs.Labels.{Label}
use Rattle.gos_pulse.specs.declared.agenda.Agenda.{Agenda}
use Rattle.gos_pulse.specs.declared.board.Board.{Board}
use Rattle.gos_pulse.specs.declared.entries.Entry.{Entry}
use Rattle.gos_pulse.specs.Driving.{BreaksAt, TakesAll, at_entries}
use Rattle.gos_pulse.specs.inner.Board.{IsTried, Stands}
use Rattle.gos_pulse.specs.inner.Agenda.{AreTaken, IsAgendaFrom, IsNextAt}

drop_at : (file : List Entry) (i : ℕ) (entry : Entry) → slice_get file i ≡ Some entry → drop i file ≡ entry ∷ drop (suc i) file
drop_at [] i entry h = absurd (cc h)
drop_at (x ∷ file) zero entry h = let same : x ≡ entry = cc in ap (λ (y : Entry). y ∷ file) same
drop_at (x ∷ file) (suc i) entry h = drop_at file i entry h

-- whether an entry is an `at` entry of a cycle
abbrev is_at : ℕ → Entry → Bool
is_at t entry = entry.at && (entry.number == t)

is_same : (n t : ℕ) → (n == t) ≡ true → n ≡ t
is_same n t h = grind arith

same_is : (n t : ℕ) → n ≡ t → (n == t) ≡ true
same_is n t h = grind arith

-- the entries of a cycle from a place on, where this entry stands there
at_there : (t : ℕ) (file : List Entry) (place : ℕ) (entry : Entry) → slice_get file place ≡ Some entry → at_entries t (drop place file) ≡ cond (is_at t entry) (entry ∷ at_entries t (drop (suc place) file)) (at_entries t (drop (suc place) file))
at_there t file place entry at = ap (at_entries t) (drop_at file place entry at)

not_at : (t : ℕ) (entry : Entry) → (entry.at ≡ true → entry.number ≡ t → ⊥) → is_at t entry ≡ false
not_at t entry other = by entry.at (entry.number == t) refl refl
  where
    by : (a b : Bool) → entry.at ≡ a → (entry.number == t) ≡ b → a && b ≡ false
    by true true is same = absurd (other is (is_same entry.number t same))
    by true false is same = refl
    by false b is same = refl

is_there : (t : ℕ) (entry : Entry) → entry.at ≡ true → entry.number ≡ t → is_at t entry ≡ true
is_there t entry is same = ap (λ (b : Bool). b && (entry.number == t)) is ∙ same_is entry.number t same

-- an entry of another cycle is passed over
passed_over : (t : ℕ) (file : List Entry) (place next : ℕ) (entry : Entry) → slice_get file place ≡ Some entry → (entry.at ≡ true → entry.number ≡ t → ⊥) → IsNextAt t file (suc place) next → IsNextAt t file place next
passed_over t file place next entry at other is =
    record {
      after = omega (arith, is.after);
      within = is.within;
      skips =
          at_there t file place entry at
          ∙ ap (λ (b : Bool). cond b (entry ∷ at_entries t (drop (suc place) file)) (at_entries t (drop (suc place) file))) (not_at t entry other)
          ∙ is.skips;
      here = is.here;
    }

same_entry : (file : List Entry) (i : ℕ) (a b : Entry) → slice_get file i ≡ Some a → slice_get file i ≡ Some b → a ≡ b
same_entry file i a b at_a at_b = cc

module _ (cycles : ℕ) (file : List Entry) (place : ℕ) (entry : Entry) (old : Agenda) (here : slice_get file place ≡ Some entry) (behind : IsAgendaFrom cycles file (suc place) old) where
  later : (k : ℕ) → place ≤ k → k ≢ place → suc place ≤ k
  later k from other = omega (arith, from, other)

  -- an entry of no cycle
  pub put_none : (entry.at ≡ true → entry.number < cycles → ⊥) → IsAgendaFrom cycles file place old
  put_none other =
      record {
        first_each = behind.first_each;
        next_each = behind.next_each;
        first = λ t less.
            passed_over t file place (get_or old.first.items t 0) entry here (λ is same. other is (omega (arith, less, same))) (behind.first t less);
        next = next;
      }
    where
      next : (k : ℕ) (e : Entry) → place ≤ k → slice_get file k ≡ Some e → e.at ≡ true → e.number < cycles → IsNextAt e.number file (suc k) (get_or old.next.items k 0)
      next k e from at is less =
          elim (cases_eq k place) [
            | inl same ↦
                let one : e ≡ entry = same_entry file place e entry (ap (slice_get file) (sym same) ∙ at) here in
                absurd (other (ap (λ (x : Entry). x.at) (sym one) ∙ is) (subst (λ (x : Entry). x.number < cycles) one less))
            | inr differ ↦ behind.next k e (later k from differ) at is less
          ]

  -- an entry of a cycle
  pub put_at : entry.at ≡ true → entry.number < cycles → (new : Agenda) → new.first.items ≡ set old.first.items entry.number place → new.next.items ≡ set old.next.items place (get_or old.first.items entry.number 0) → IsAgendaFrom cycles file place new
  put_at is less new first_is next_is =
      record {
        first_each = ap length first_is ∙ length-set old.first.items entry.number place ∙ behind.first_each;
        next_each = ap length next_is ∙ length-set old.next.items place (get_or old.first.items entry.number 0) ∙ behind.next_each;
        first = first;
        next = next;
      }
    where
      within : place < length file
      within = slice_get_within file place entry here

      itself : IsNextAt entry.number file place place
      itself =
          record {
            after = omega arith;
            within = omega (arith, within);
            skips = refl;
            here = λ e at.
                let one : entry ≡ e = same_entry file place entry e here at in
                (ap (λ (x : Entry). x.at) (sym one) ∙ is, ap (λ (x : Entry). x.number) (sym one));
          }

      first : (t : ℕ) → t < cycles → IsNextAt t file place (get_or new.first.items t 0)
      first t small =
          elim (cases_eq t entry.number) [
            | inl same ↦
                let read : get_or new.first.items t 0 ≡ place =
                ap (λ (xs : List ℕ). get_or xs t 0) first_is ∙ ap (λ (n : ℕ). get_or (set old.first.items entry.number place) n 0) same
                ∙ get_or-set_same old.first.items entry.number place 0 (omega (arith, less, behind.first_each)) in
                subst (IsNextAt t file place) (sym read) (subst (λ (n : ℕ). IsNextAt n file place place) (sym same) itself)
            | inr differ ↦
                let read : get_or new.first.items t 0 ≡ get_or old.first.items t 0 =
                ap (λ (xs : List ℕ). get_or xs t 0) first_is ∙ get_or-set_other old.first.items entry.number t place 0 differ in
                subst (IsNextAt t file place) (sym read) (passed_over t file place (get_or old.first.items t 0) entry here (λ _ same. differ (sym same)) (behind.first t small))
          ]

      next : (k : ℕ) (e : Entry) → place ≤ k → slice_get file k ≡ Some e → e.at ≡ true → e.number < cycles → IsNextAt e.number file (suc k) (get_or new.next.items k 0)
      next k e from at e_is small =
          elim (cases_eq k place) [
            | inl same ↦
                let one : entry ≡ e = same_entry file place entry e here (ap (slice_get file) (sym same) ∙ at) in
                let read : get_or new.next.items k 0 ≡ get_or old.first.items entry.number 0 =
                ap (λ (xs : List ℕ). get_or xs k 0) next_is ∙ ap (λ (n : ℕ). get_or (set old.next.items place (get_or old.first.items entry.number 0)) n 0) same
                ∙ get_or-set_same old.next.items place (get_or old.first.items entry.number 0) 0 (omega (arith, within, behind.next_each)) in
                subst (IsNextAt e.number file (suc k)) (sym read)
                (subst (λ (n : ℕ). IsNextAt e.number file (suc n) (get_or old.first.items entry.number 0)) (sym same)
                (subst (λ (x : Entry). IsNextAt x.number file (suc place) (get_or old.first.items entry.number 0)) one (behind.first entry.number less)))
            | inr differ ↦
                let read : get_or new.next.items k 0 ≡ get_or old.next.items k 0 =
                ap (λ (xs : List ℕ). get_or xs k 0) next_is ∙ get_or-set_other old.next.items place k (get_or old.first.items entry.number 0) 0 differ in
                subst (IsNextAt e.number file (suc k)) (sym read) (behind.next k e (later k from differ) at e_is small)
          ]

-- The entries of cycle t before a place were taken as these labels, and whatever comes of those from the place on
-- comes of all of them.
pub record TakenTo (net : Netlist) (past : List Label) (t : ℕ) (file : List Entry) (place : ℕ) (board : Board) : Type 0 where
  pub taken : List Label
  pub stands : Stands net past taken board
  pub takes : (more : List Label) → TakesAll net (reverse taken ++ past) (at_entries t (drop place file)) more → TakesAll net past (at_entries t file) (taken ++ more)
  pub breaks : (event : ℕ) → BreaksAt net (reverse taken ++ past) (at_entries t (drop place file)) event → BreaksAt net past (at_entries t file) event

pub none_taken : (net : Netlist) (past : List Label) (t : ℕ) (file : List Entry) (place : ℕ) (board : Board) → Stands net past [] board → IsNextAt t file 0 place → TakenTo net past t file place board
none_taken net past t file place board stands is =
    record {
      taken = [];
      stands = stands;
      takes = λ more h. subst (λ (es : List Entry). TakesAll net past es more) (sym is.skips) h;
      breaks = λ event h. subst (λ (es : List Entry). BreaksAt net past es event) (sym is.skips) h;
    }

module _ (net : Netlist) (past : List Label) (t : ℕ) (file : List Entry) (place : ℕ) (board : Board) (so_far : TakenTo net past t file place board) where
  -- the next entry was taken
  pub taken_more : (entry : Entry) (next : ℕ) (new : Board) → slice_get file place ≡ Some entry → (entry.at ≡ true) × (entry.number ≡ t) → IsNextAt t file (suc place) next → IsTried net past so_far.taken entry true new → TakenTo net past t file next new
  taken_more entry next new here at_t is tried =
      let l : Label = tried.0 in
      let moved : reverse (so_far.taken ++ l ∷ []) ++ past ≡ l ∷ (reverse so_far.taken ++ past) = ap (λ (ls : List Label). ls ++ past) (reverse-append so_far.taken (l ∷ [])) in
      let rest : at_entries t (drop place file) ≡ entry ∷ at_entries t (drop next file) =
      at_there t file place entry here
      ∙ ap (λ (b : Bool). cond b (entry ∷ at_entries t (drop (suc place) file)) (at_entries t (drop (suc place) file))) (is_there t entry at_t.0 at_t.1)
      ∙ ap (λ (es : List Entry). entry ∷ es) is.skips in
      record {
        taken = so_far.taken ++ l ∷ [];
        stands = tried.2;
        takes = λ more h.
            subst (TakesAll net past (at_entries t file)) (sym (append_assoc so_far.taken (l ∷ []) more))
            (so_far.takes (l ∷ more)
            (subst (λ (es : List Entry). TakesAll net (reverse so_far.taken ++ past) es (l ∷ more)) (sym rest)
            (tried.1, subst (λ (ls : List Label). TakesAll net ls (at_entries t (drop next file)) more) moved h)));
        breaks = λ event h.
            so_far.breaks event
            (subst (λ (es : List Entry). BreaksAt net (reverse so_far.taken ++ past) es event) (sym rest)
            (inr (l, tried.1, subst (λ (ls : List Label). BreaksAt net ls (at_entries t (drop next file)) event) moved h)));
      }

  -- the next entry is not allowed
  pub taken_breaks : (entry : Entry) → slice_get file place ≡ Some entry → (entry.at ≡ true) × (entry.number ≡ t) → IsTried net past so_far.taken entry false board → BreaksAt net past (at_entries t file) entry.event
  taken_breaks entry here at_t tried =
      let rest : at_entries t (drop place file) ≡ entry ∷ at_entries t (drop (suc place) file) =
      at_there t file place entry here
      ∙ ap (λ (b : Bool). cond b (entry ∷ at_entries t (drop (suc place) file)) (at_entries t (drop (suc place) file))) (is_there t entry at_t.0 at_t.1) in
      so_far.breaks entry.event
      (subst (λ (es : List Entry). BreaksAt net (reverse so_far.taken ++ past) es entry.event) (sym rest) (inl (tried.0, refl)))

  -- no entry is left
  pub all_taken : length file ≤ place → AreTaken net past (at_entries t file) board
  all_taken ends =
      let none : at_entries t (drop place file) ≡ [] = ap (at_entries t) (drop_all place file ends) in
      let takes : TakesAll net past (at_entries t file) (so_far.taken ++ []) =
      so_far.takes [] (subst (λ (es : List Entry). TakesAll net (reverse so_far.taken ++ past) es []) (sym none) refl) in
      record {
        taken = so_far.taken;
        takes = subst (TakesAll net past (at_entries t file)) (append-nil so_far.taken) takes;
        stands = so_far.stands;
      }

-- what an agenda has for a cycle, and for one of its entries
pub first_at : (cycles t : ℕ) (file : List Entry) (agenda : Agenda) (place : ℕ) → IsAgendaFrom cycles file 0 agenda → t < cycles → place ≡ get_or agenda.first.items t place → IsNextAt t file 0 place
first_at cycles t file agenda place is less read =
    let here : place ≡ get_or agenda.first.items t 0 = get_or_read agenda.first.items t place (omega (arith, less, is.first_each)) read 0 in
    subst (IsNextAt t file 0) (sym here) (is.first t less)

pub next_at : (cycles t : ℕ) (file : List Entry) (agenda : Agenda) (place next : ℕ) (entry : Entry) → IsAgendaFrom cycles file 0 agenda → t < cycles → slice_get file place ≡ Some entry → (entry.at ≡ true) × (entry.number ≡ t) → next ≡ get_or agenda.next.items place next → IsNextAt t file (suc place) next
next_at cycles t file agenda place next entry is less here at_t read =
    let within : place < length file = slice_get_within file place entry here in
    let there : next ≡ get_or agenda.next.items place 0 = get_or_read agenda.next.items place next (omega (arith, within, is.next_each)) read 0 in
    subst (IsNextAt t file (suc place)) (sym there)
    (subst (λ (n : ℕ). IsNextAt n file (suc place) (get_or agenda.next.items place 0)) at_t.1
    (is.next place entry (omega arith) here at_t.0 (omega (arith, less, at_t.1))))
