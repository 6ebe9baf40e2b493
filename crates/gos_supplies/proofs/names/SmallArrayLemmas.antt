-- The plan that leaves the index unjoined is quiet when the array has asked for it, and the program is not stalled.
use Rattle.std.specs.Prelude.{◌≡◌, ℕ, zero, suc, List, [], ◌∷◌, Some, None}
use Rattle.std.proofs.Common.{arith, refl, sym, subst, inl, inr}
use Rattle.std.proofs.lemmas.Bool.Decides.{nat_tests}
use Rattle.gos_types.specs.Events.{Request}
use Rattle.gos_model.specs.Terms.{Term, Lit, App, Both, Deref, Wait}
use Rattle.gos_model.specs.Reach.{Unfolds}
use Rattle.gos_model.specs.Labels.{Label, given, taken}
use Rattle.gos_model.specs.Moves.{Program, Config, Idle, Running, Act, Computing, Showing, Moves, labels, Unfoldings, ActsTo, Stalled}
use Rattle.gos_model.specs.ArrayPorts.{a}
use Rattle.gos_plan.specs.Firing.{Waiting, Slot, Req, Ans, Row, row, at, put}
use Rattle.gos_plan.specs.Plans.{End, PartEnd, ImportEnd, ResultEnd}
use Rattle.gos_plan.specs.Tokens.{Tokens, Element, Fire, Out, In, fired, with_token, Does, Runs, IsQuiet}
use Rattle.gos_plan.specs.SmallPlans.{at_first}
use Rattle.gos_realises.specs.realises.Regular.{InputsKeepTurns}
use Rattle.gos_realises.specs.realises.Matched.{program_of}
use Rattle.gos_supplies.specs.names.SmallArrays.{read_first, index_left, IndexIsTold}

abbrev program : Program
program = program_of index_left read_first

-- the access while it waits, and while its index is asked for
abbrev waiting : ℕ → Term
waiting s = Deref (App (Wait a s) (Both (Lit 0 1) (Lit 0 1)))

-- what does nothing by itself
record IsStill (m : Term) : Type 0 where
  unfolds : (t : Term) → Unfolds m t → ⊥
  computes : (e : Config) → ActsTo program.imports Computing [] m e → ⊥

first_unfolds : (t : Term) → Unfolds read_first t → ⊥
first_unfolds t h = grind (arith, h)

first_computes : (e : Config) → ActsTo program.imports Computing [] read_first e → ⊥
first_computes Idle h = h
first_computes (Running t s) h = grind (arith, h)

waiting_unfolds : (n : ℕ) (t : Term) → Unfolds (waiting n) t → ⊥
waiting_unfolds n t h = grind (arith, h)

waiting_computes : (n : ℕ) (e : Config) → ActsTo program.imports Computing [] (waiting n) e → ⊥
waiting_computes n Idle h = h
waiting_computes n (Running t s) h = grind (arith, h)

first_still : IsStill read_first
first_still = record { unfolds = first_unfolds; computes = first_computes }

waiting_still : (n : ℕ) → IsStill (waiting n)
waiting_still n = record { unfolds = waiting_unfolds n; computes = waiting_computes n }

unfolds_none : (m : Term) → IsStill m → (n : ℕ) (u : Term) → Unfoldings n m u → m ≡ u
unfolds_none m still zero u h = h
unfolds_none m still (suc n) u h = absurd (still.unfolds h.0 h.1)

stays : (m : Term) → IsStill m → (acts : List Act) (e : Config) → Moves program acts (Running m []) e → labels acts ≡ [] → e ≡ Running m []
stays m still [] e move l = sym move
stays m still (Computing ∷ acts) e (b, (n, u, us, h), move) l =
    absurd (still.computes b (subst (λ (v : Term). ActsTo program.imports Computing [] v b) (sym (unfolds_none m still n u us)) h))
stays m still (Showing o ∷ acts) e move l = absurd cc

begins : (acts : List Act) (e : Config) → Moves program acts Idle e → labels acts ≡ given 0 0 ∷ [] → e ≡ Running read_first []
begins [] e move l = absurd cc
begins (Computing ∷ acts) e (b, (is, at_body), move) l = absurd cc
begins (Showing o ∷ acts) e (b, (is, at_body), move) l =
    let rest : labels acts ≡ [] = cc in
    stays read_first first_still acts e (subst (λ (x : Config). Moves program acts x e) at_body move) rest

-- one label, that leads from this to that
goes : (o : Label) (m t : Term) → IsStill m → IsStill t → ((e : Config) → ActsTo program.imports (Showing o) [] m e → e ≡ Running t [])
    → (acts : List Act) (e : Config) → Moves program acts (Running m []) e → labels acts ≡ o ∷ [] → e ≡ Running t []
goes o m t still then leads [] e move l = absurd cc
goes o m t still then leads (Computing ∷ acts) e (b, (n, u, us, h), move) l =
    absurd (still.computes b (subst (λ (v : Term). ActsTo program.imports Computing [] v b) (sym (unfolds_none m still n u us)) h))
goes o m t still then leads (Showing q ∷ acts) e (b, (n, u, us, h), move) l =
    let same : q ≡ o = cc l in
    let rest : labels acts ≡ [] = cc l in
    let here : ActsTo program.imports (Showing q) [] m b =
    subst (λ (v : Term). ActsTo program.imports (Showing q) [] v b) (sym (unfolds_none m still n u us)) h in
    let there : b ≡ Running t [] = leads b (subst (λ (x : Label). ActsTo program.imports (Showing x) [] m b) same here) in
    stays t then acts e (subst (λ (x : Config). Moves program acts x e) there move) rest

asks : (e : Config) → ActsTo program.imports (Showing (taken a 2 0)) [] read_first e → e ≡ Running (waiting 1) []
asks Idle (inl (is, label)) = absurd (cc is)
asks Idle (inr (k, w, is, label)) = absurd (cc is)
asks (Running t s) (inl (inl (inl (x, w, is, typed, label, to))), kept) = absurd (cc is)
asks (Running t s) (inl (inl (inr (x, port, (i, w, n, array, inl (is, event, value, to))))), kept) =
    let same : t ≡ waiting 1 = cc in λ j. Running (same j) (kept j)
asks (Running t s) (inl (inl (inr (x, port, (i, w, n, array, inr (j, is, number, event, to))))), kept) = absurd (omega (arith, event))
asks (Running t s) (inl (inr (x, port, (i, w, n, j, array, is, rest))), kept) = absurd (cc is)
asks (Running t s) (inr (m, to, inl below), kept) = absurd below
asks (Running t s) (inr (m, to, inr ((l, place), y, then, below)), kept) = absurd (cc place)

takes : (e : Config) → ActsTo program.imports (Showing (taken a 1 0)) [] (waiting 1) e → e ≡ Running (waiting 0) []
takes Idle (inl (is, label)) = absurd (cc is)
takes Idle (inr (k, w, is, label)) = absurd (cc is)
takes (Running t s) (inl (inl (inl (x, w, is, typed, label, to))), kept) = absurd (cc is)
takes (Running t s) (inl (inl (inr (x, port, (i, w, n, array, inl (is, event, value, to))))), kept) = absurd (omega (arith, event))
takes (Running t s) (inl (inl (inr (x, port, (i, w, n, array, inr (j, is, number, event, to))))), kept) = absurd (omega (arith, event))
takes (Running t s) (inl (inr (x, port, (i, w, n, j, array, is, inl (event, value, to)))), kept) =
    let same : t ≡ waiting 0 = cc in λ l. Running (same l) (kept l)
takes (Running t s) (inl (inr (x, port, (i, w, n, j, array, is, inr (event, fits, to)))), kept) = absurd (omega (arith, event))
takes (Running t s) (inr (m, to, inl ((x, head), n, within, below)), kept) = let no : ◌≡◌ {A = ℕ} 1 0 = cc head in absurd (omega (arith, no))
takes (Running t s) (inr (m, to, inr ((l, place), y, then, below)), kept) = absurd (cc place)

goes_on : Stalled program (Running (waiting 0) []) → ⊥
goes_on stalled =
    stalled.1 (taken a 0 0) (Running (waiting 1) []) refl
    (0, waiting 0, refl, (inl (inl (inr (a, refl, (1, 8, Lit 0 1, refl, inr (Lit 0 1, refl, refl, refl, refl))))), refl))

-- the plan is run, it asks to read, and the array asks for the index
abbrev run : Tokens
run = with_token index_left (ResultEnd 0) Request (Some 0) at_first

abbrev begins_read : Row
begins_read = row (Req 1) (at Waiting 0) (λ v. put (Req 0) 0)

abbrev reading : Tokens
reading = fired index_left 0 begins_read 0 run

abbrev gone : Tokens
gone = with_token index_left (ImportEnd 0 1) Request None reading

abbrev list : List Element
list = In (ResultEnd 0) 0 ∷ Fire 0 (Req 1) ∷ Out (ImportEnd 0 1) 0 ∷ In (ImportEnd 0 0) 0 ∷ []

runs_first : Does index_left (In (ResultEnd 0) 0) at_first run
runs_first = (tt, (omega arith, refl))

reads : Does index_left (Fire 0 (Req 1)) run reading
reads = (0, begins_read, refl, refl, refl)

puts : Does index_left (Out (ImportEnd 0 1) 0) reading gone
puts = (tt, (refl, refl))

index_asked : Does index_left (In (ImportEnd 0 0) 0) gone gone
index_asked = (tt, (omega arith, refl))

in_turn : InputsKeepTurns index_left [] list
in_turn = (
  (refl, ((tt, refl, λ asked. absurd (cc asked)), tt, λ asked. absurd (cc asked))),
  ((refl, ((tt, refl, λ asked. refl), tt, λ asked. refl)), tt),
)

quiet : IsQuiet index_left gone
quiet = (no_firing, no_output)
  where
    no_firing : (i : ℕ) (t : Slot) (w : Tokens) → Does index_left (Fire i t) gone w → ⊥
    no_firing zero (Req h) w (v, r, lies, fires, leads) = cc fires
    no_firing zero (Ans zero) w (v, r, lies, fires, leads) = let none : None ≡ Some v = lies in cc none
    no_firing zero (Ans (suc h)) w (v, r, lies, fires, leads) = absurd (grind (arith, nat_tests, fires))
    no_firing (suc zero) (Req zero) w (v, r, lies, fires, leads) = let none : None ≡ Some v = lies in cc none
    no_firing (suc zero) (Req (suc h)) w (v, r, lies, fires, leads) = absurd (grind (arith, nat_tests, fires))
    no_firing (suc zero) (Ans h) w (v, r, lies, fires, leads) = cc fires
    no_firing (suc (suc i)) t w (v, r, lies, fires, leads) = cc fires

    no_output : (e : End) (v : ℕ) (w : Tokens) → Does index_left (Out e v) gone w → ⊥
    no_output (PartEnd i h) v w does = does.0
    no_output (ImportEnd zero zero) v w does = let none = does.1.0 in cc none
    no_output (ImportEnd zero (suc zero)) v w does = let none = does.1.0 in cc none
    no_output (ImportEnd zero (suc (suc zero))) v w does = let none = does.1.0 in cc none
    no_output (ImportEnd zero (suc (suc (suc h)))) v w does = does.1
    no_output (ImportEnd (suc i) h) v w does = does.1
    no_output (ResultEnd zero) v w does = let none = does.1.0 in cc none
    no_output (ResultEnd (suc h)) v w does = does.1

pub index_is_told : IndexIsTold
index_is_told realises =
    let runs : Runs index_left list at_first gone = (run, runs_first, (reading, reads, (gone, puts, (gone, index_asked, refl)))) in
    let one = (realises at_first gone list ((λ way e. refl), λ i. refl) runs in_turn).0.1 run runs_first in
    let two = one.5.1 reading reads in
    let three = two.5.1 gone puts in
    let four = three.5.1 gone index_asked in
    let begun = begins one.0 one.1 one.2 one.3 in
    let on = stays read_first first_still two.0 two.1 (subst (λ (x : Config). Moves program two.0 x two.1) begun two.2) two.3 in
    let asked =
    goes (taken a 2 0) read_first (waiting 1) first_still (waiting_still 1) asks three.0 three.1
    (subst (λ (x : Config). Moves program three.0 x three.1) on three.2) three.3 in
    let told =
    goes (taken a 1 0) (waiting 1) (waiting 0) (waiting_still 1) (waiting_still 0) takes four.0 four.1
    (subst (λ (x : Config). Moves program four.0 x four.1) asked four.2) four.3 in
    goes_on (subst (λ (x : Config). Stalled program x) told (four.5.0 quiet))
