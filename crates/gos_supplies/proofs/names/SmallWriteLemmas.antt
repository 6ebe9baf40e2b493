-- The plan that leaves the index of a write unjoined is quiet when the array has asked for it, and the program is not stalled. So it
-- is of the function that writes its argument there, applied to the array.
use Rattle.std.specs.Prelude.{◌≡◌, ◌⊎◌, ℕ, zero, suc, List, [], ◌∷◌, Some, None}
use Rattle.std.proofs.Common.{arith, refl, sym, ◌∙◌, subst, inl, inr}
use Rattle.std.proofs.lemmas.Bool.Decides.{nat_tests}
use Rattle.gos_types.specs.Events.{Request}
use Rattle.gos_types.specs.Types.{Exp, Var, Fun}
use Rattle.gos_model.specs.Terms.{Term, Lit, Bound, Import, Lam, App, Both, Assign, Put, Wait}
use Rattle.gos_model.specs.Typing.{Imports}
use Rattle.gos_model.specs.Reach.{Unfolds}
use Rattle.gos_model.specs.Labels.{Label, given, taken}
use Rattle.gos_model.specs.Moves.{Program, Config, Idle, Running, Act, Computing, Showing, Moves, labels, Unfoldings, ActsTo, Stalled}
use Rattle.gos_model.specs.ArrayPorts.{a}
use Rattle.gos_plan.specs.Firing.{Rest, Value, Writing, Slot, Req, Ans, Row, row, at, put}
use Rattle.gos_plan.specs.Plans.{End, PartEnd, ImportEnd, ResultEnd}
use Rattle.gos_plan.specs.Tokens.{Tokens, Element, Fire, Out, In, fired, with_token, Does, Runs, IsQuiet}
use Rattle.gos_plan.specs.SmallPlans.{at_first}
use Rattle.gos_realises.specs.realises.Regular.{InputsKeepTurns}
use Rattle.gos_realises.specs.realises.Matched.{program_of, RealisesInTurn}
use Rattle.gos_supplies.specs.names.SmallArrays.{write_first, write_index_left, WrittenIndexIsTold}

-- the function, applied
abbrev pub write_applied : Term
write_applied = App (Lam (Fun (Exp 1) (Var 8)) (Assign (App (Bound 0) (Lit 0 1)) (Lit 5 8))) (Import a)

abbrev is : Imports
is = write_index_left.imports

-- the write with its number, and the access while it waits, and while its index is asked for
abbrev numbered : Term
numbered = Put (App (Import a) (Lit 0 1)) 5

abbrev waiting : ℕ → Term
waiting s = Put (App (Wait a s) (Both (Lit 0 1) (Lit 0 1))) 5

applied_unfolds : (t : Term) → Unfolds write_applied t → t ≡ write_first
applied_unfolds t (inl (inl (inl (b, c, e, to)))) = cc
applied_unfolds t (inl (inl (inr (c, to, inl h)))) = absurd h
applied_unfolds t (inl (inl (inr (c, to, inr h)))) = absurd h
applied_unfolds t (inl (inr h)) = absurd h
applied_unfolds t (inr h) = absurd h

first_unfolds : (t : Term) → Unfolds write_first t → ⊥
first_unfolds t h = grind (arith, h)

numbered_unfolds : (t : Term) → Unfolds numbered t → ⊥
numbered_unfolds t h = grind (arith, h)

waiting_unfolds : (n : ℕ) (t : Term) → Unfolds (waiting n) t → ⊥
waiting_unfolds n t h = grind (arith, h)

-- nothing has been shown yet
abbrev IsBegun : Term → Type 0
IsBegun m = (m ≡ write_applied) ⊎ ((m ≡ write_first) ⊎ (m ≡ numbered))

first_stays : (n : ℕ) (u : Term) → Unfoldings n write_first u → write_first ≡ u
first_stays zero u h = h
first_stays (suc n) u h = absurd (first_unfolds h.0 h.1)

numbered_stays : (n : ℕ) (u : Term) → Unfoldings n numbered u → numbered ≡ u
numbered_stays zero u h = h
numbered_stays (suc n) u h = absurd (numbered_unfolds h.0 h.1)

applied_stays : (n : ℕ) (u : Term) → Unfoldings n write_applied u → IsBegun u
applied_stays zero u h = inl (sym h)
applied_stays (suc n) u (v, one, rest) =
    inr (inl (sym (first_stays n u (subst (λ (x : Term). Unfoldings n x u) (applied_unfolds v one) rest))))

begun_stays : (m : Term) → IsBegun m → (n : ℕ) (u : Term) → Unfoldings n m u → IsBegun u
begun_stays m (inl e) n u h = applied_stays n u (subst (λ (x : Term). Unfoldings n x u) e h)
begun_stays m (inr (inl e)) n u h = inr (inl (sym (first_stays n u (subst (λ (x : Term). Unfoldings n x u) e h))))
begun_stays m (inr (inr e)) n u h = inr (inr (sym (numbered_stays n u (subst (λ (x : Term). Unfoldings n x u) e h))))

abbrev HasBegun : Config → Type 0
HasBegun Idle = ⊥
HasBegun (Running m s) = IsBegun m × (s ≡ [])

applied_computes : (e : Config) → ActsTo is Computing [] write_applied e → ⊥
applied_computes Idle h = h
applied_computes (Running t s) h = grind (arith, h)

numbered_computes : (e : Config) → ActsTo is Computing [] numbered e → ⊥
numbered_computes Idle h = h
numbered_computes (Running t s) h = grind (arith, h)

first_computes : (e : Config) → ActsTo is Computing [] write_first e → HasBegun e
first_computes Idle h = h
first_computes (Running t s) (inl (k, w, value, to, kept)) = (inr (inr (let five : k ≡ 5 = cc value in to ∙ (λ j. Put (App (Import a) (Lit 0 1)) (five j)))), kept)
first_computes (Running t s) (inr (n, to, inl h)) = absurd h
first_computes (Running t s) (inr (n, to, inr h)) = absurd h

begun_computes : (m : Term) → IsBegun m → (e : Config) → ActsTo is Computing [] m e → HasBegun e
begun_computes m (inl is_m) e h = absurd (applied_computes e (subst (λ (x : Term). ActsTo is Computing [] x e) is_m h))
begun_computes m (inr (inl is_m)) e h = first_computes e (subst (λ (x : Term). ActsTo is Computing [] x e) is_m h)
begun_computes m (inr (inr is_m)) e h = absurd (numbered_computes e (subst (λ (x : Term). ActsTo is Computing [] x e) is_m h))

waiting_computes : (n : ℕ) (e : Config) → ActsTo is Computing [] (waiting n) e → ⊥
waiting_computes n Idle h = h
waiting_computes n (Running t s) h = grind (arith, h)

waiting_stays : (n j : ℕ) (u : Term) → Unfoldings j (waiting n) u → waiting n ≡ u
waiting_stays n zero u h = h
waiting_stays n (suc j) u h = absurd (waiting_unfolds n h.0 h.1)

-- the write is asked for
applied_asks : (e : Config) → ActsTo is (Showing (taken a 4 5)) [] write_applied e → ⊥
applied_asks Idle (inl (same, label)) = cc same
applied_asks Idle (inr (k, w, same, label)) = cc same
applied_asks (Running t s) h = grind (arith, h)

first_asks : (e : Config) → ActsTo is (Showing (taken a 4 5)) [] write_first e → ⊥
first_asks Idle (inl (same, label)) = cc same
first_asks Idle (inr (k, w, same, label)) = cc same
first_asks (Running t s) h = grind (arith, h)

asks : (e : Config) → ActsTo is (Showing (taken a 4 5)) [] numbered e → e ≡ Running (waiting 1) []
asks Idle (inl (same, label)) = absurd (cc same)
asks Idle (inr (k, w, same, label)) = absurd (cc same)
asks (Running t s) (inl (inl (inl (x, w, same, typed, label, to))), kept) = absurd (cc same)
asks (Running t s) (inl (inl (inr (x, port, (i, w, n, array, inl (same, event, value, to))))), kept) =
    let at_last : t ≡ waiting 1 = cc in λ j. Running (at_last j) (kept j)
asks (Running t s) (inl (inl (inr (x, port, (i, w, n, array, inr (j, same, number, event, to))))), kept) = absurd (omega (arith, event))
asks (Running t s) (inl (inr (x, port, (i, w, n, j, array, same, rest))), kept) = absurd (cc same)
asks (Running t s) (inr (m, to, inl below), kept) = absurd below
asks (Running t s) (inr (m, to, inr ((l, place), y, then, below)), kept) = absurd (cc place)

begun_asks : (m : Term) → IsBegun m → (e : Config) → ActsTo is (Showing (taken a 4 5)) [] m e → e ≡ Running (waiting 1) []
begun_asks m (inl is_m) e h = absurd (applied_asks e (subst (λ (x : Term). ActsTo is (Showing (taken a 4 5)) [] x e) is_m h))
begun_asks m (inr (inl is_m)) e h = absurd (first_asks e (subst (λ (x : Term). ActsTo is (Showing (taken a 4 5)) [] x e) is_m h))
begun_asks m (inr (inr is_m)) e h = asks e (subst (λ (x : Term). ActsTo is (Showing (taken a 4 5)) [] x e) is_m h)

takes : (e : Config) → ActsTo is (Showing (taken a 1 0)) [] (waiting 1) e → e ≡ Running (waiting 0) []
takes Idle (inl (same, label)) = absurd (cc same)
takes Idle (inr (k, w, same, label)) = absurd (cc same)
takes (Running t s) (inl (inl (inl (x, w, same, typed, label, to))), kept) = absurd (cc same)
takes (Running t s) (inl (inl (inr (x, port, (i, w, n, array, inl (same, event, value, to))))), kept) = absurd (omega (arith, event))
takes (Running t s) (inl (inl (inr (x, port, (i, w, n, array, inr (j, same, number, event, to))))), kept) = absurd (omega (arith, event))
takes (Running t s) (inl (inr (x, port, (i, w, n, j, array, same, inl (event, value, to)))), kept) =
    let at_last : t ≡ waiting 0 = cc in λ l. Running (at_last l) (kept l)
takes (Running t s) (inl (inr (x, port, (i, w, n, j, array, same, inr (event, none, to)))), kept) = absurd (omega (arith, event))
takes (Running t s) (inr (m, to, inl ((x, head), n, within, below)), kept) = let no : ◌≡◌ {A = ℕ} 1 0 = cc head in absurd (omega (arith, no))
takes (Running t s) (inr (m, to, inr ((l, place), y, then, below)), kept) = absurd (cc place)

module _ (body : Term) where
  abbrev program : Program
  program = program_of write_index_left body

  silent : (acts : List Act) (c e : Config) → HasBegun c → Moves program acts c e → labels acts ≡ [] → HasBegun e
  silent [] c e begun move l = subst HasBegun move begun
  silent (Computing ∷ acts) Idle e begun move l = absurd begun
  silent (Computing ∷ acts) (Running m s) e (begun, kept) (b, (n, u, us, h), move) l =
      silent acts b e
      (begun_computes u (begun_stays m begun n u us) b (subst (λ x. ActsTo is Computing x u b) kept h)) move l
  silent (Showing o ∷ acts) c e begun move l = absurd cc

  begins : IsBegun body → (acts : List Act) (e : Config) → Moves program acts Idle e → labels acts ≡ given 0 0 ∷ [] → HasBegun e
  begins first [] e move l = absurd cc
  begins first (Computing ∷ acts) e (b, (none, at_body), move) l = absurd cc
  begins first (Showing o ∷ acts) e (b, (run, at_body), move) l =
      let rest : labels acts ≡ [] = cc in
      silent acts b e (subst HasBegun (sym at_body) (first, refl)) move rest

  stays : (n : ℕ) (acts : List Act) (e : Config) → Moves program acts (Running (waiting n) []) e → labels acts ≡ [] → e ≡ Running (waiting n) []
  stays n [] e move l = sym move
  stays n (Computing ∷ acts) e (b, (j, u, us, h), move) l =
      absurd (waiting_computes n b (subst (λ (v : Term). ActsTo is Computing [] v b) (sym (waiting_stays n j u us)) h))
  stays n (Showing o ∷ acts) e move l = absurd cc

  asked : (acts : List Act) (c e : Config) → HasBegun c → Moves program acts c e → labels acts ≡ taken a 4 5 ∷ [] → e ≡ Running (waiting 1) []
  asked [] c e begun move l = absurd cc
  asked (Computing ∷ acts) Idle e begun move l = absurd begun
  asked (Computing ∷ acts) (Running m s) e (begun, kept) (b, (n, u, us, h), move) l =
      asked acts b e (begun_computes u (begun_stays m begun n u us) b (subst (λ x. ActsTo is Computing x u b) kept h)) move l
  asked (Showing o ∷ acts) Idle e begun move l = absurd begun
  asked (Showing o ∷ acts) (Running m s) e (begun, kept) (b, (n, u, us, h), move) l =
      let same : o ≡ taken a 4 5 = cc l in
      let rest : labels acts ≡ [] = cc l in
      let here : ActsTo is (Showing (taken a 4 5)) [] u b =
      subst (λ x. ActsTo is (Showing (taken a 4 5)) x u b) kept (subst (λ (x : Label). ActsTo is (Showing x) s u b) same h) in
      let there : b ≡ Running (waiting 1) [] = begun_asks u (begun_stays m begun n u us) b here in
      stays 1 acts e (subst (λ (x : Config). Moves program acts x e) there move) rest

  told : (acts : List Act) (e : Config) → Moves program acts (Running (waiting 1) []) e → labels acts ≡ taken a 1 0 ∷ [] → e ≡ Running (waiting 0) []
  told [] e move l = absurd cc
  told (Computing ∷ acts) e (b, (j, u, us, h), move) l =
      absurd (waiting_computes 1 b (subst (λ (v : Term). ActsTo is Computing [] v b) (sym (waiting_stays 1 j u us)) h))
  told (Showing o ∷ acts) e (b, (j, u, us, h), move) l =
      let same : o ≡ taken a 1 0 = cc l in
      let rest : labels acts ≡ [] = cc l in
      let here : ActsTo is (Showing o) [] (waiting 1) b = subst (λ (v : Term). ActsTo is (Showing o) [] v b) (sym (waiting_stays 1 j u us)) h in
      let there : b ≡ Running (waiting 0) [] = takes b (subst (λ (x : Label). ActsTo is (Showing x) [] (waiting 1) b) same here) in
      stays 0 acts e (subst (λ (x : Config). Moves program acts x e) there move) rest

  goes_on : Stalled program (Running (waiting 0) []) → ⊥
  goes_on stalled =
      stalled.1 (taken a 0 0) (Running (waiting 1) []) refl
      (0, waiting 0, refl, (inl (inl (inr (a, refl, (1, 8, Lit 0 1, refl, inr (Lit 0 1, refl, refl, refl, refl))))), refl))

-- the plan is run, it gets its number, it asks to write, and the array asks for the index
abbrev run : Tokens
run = with_token write_index_left (ResultEnd 0) Request (Some 0) at_first

abbrev runs_row : Row
runs_row = row (Req 2) (at Value 0) (λ v. put (Req 0) 0)

abbrev getting : Tokens
getting = fired write_index_left 0 runs_row 0 run

abbrev number_row : Row
number_row = row (Req 0) (at Rest 0) (λ v. put (Ans 0) 5)

abbrev got : Tokens
got = fired write_index_left 1 number_row 0 getting

abbrev given_row : Row
given_row = row (Ans 0) (at Writing 0) (put (Req 1))

abbrev writing : Tokens
writing = fired write_index_left 0 given_row 5 got

abbrev gone : Tokens
gone = with_token write_index_left (ImportEnd 0 2) Request None writing

abbrev list : List Element
list = In (ResultEnd 0) 0 ∷ Fire 0 (Req 2) ∷ Fire 1 (Req 0) ∷ Fire 0 (Ans 0) ∷ Out (ImportEnd 0 2) 5 ∷ In (ImportEnd 0 0) 0 ∷ []

runs_first : Does write_index_left (In (ResultEnd 0) 0) at_first run
runs_first = (tt, (omega arith, refl))

gets : Does write_index_left (Fire 0 (Req 2)) run getting
gets = (0, runs_row, refl, refl, refl)

gives : Does write_index_left (Fire 1 (Req 0)) getting got
gives = (0, number_row, refl, refl, refl)

writes : Does write_index_left (Fire 0 (Ans 0)) got writing
writes = (5, given_row, refl, refl, refl)

puts : Does write_index_left (Out (ImportEnd 0 2) 5) writing gone
puts = (tt, (refl, refl))

index_asked : Does write_index_left (In (ImportEnd 0 0) 0) gone gone
index_asked = (tt, (omega arith, refl))

in_turn : InputsKeepTurns write_index_left [] list
in_turn = (
  (refl, ((tt, refl, λ up. absurd (cc up)), tt, λ up. absurd (cc up))),
  ((refl, ((tt, refl, λ up. refl), tt, λ up. refl)), tt),
)

quiet : IsQuiet write_index_left gone
quiet = (no_firing, no_output)
  where
    no_firing : (i : ℕ) (t : Slot) (w : Tokens) → Does write_index_left (Fire i t) gone w → ⊥
    no_firing zero (Req h) w (v, r, lies, fires, leads) = cc fires
    no_firing zero (Ans zero) w (v, r, lies, fires, leads) = cc fires
    no_firing zero (Ans (suc zero)) w (v, r, lies, fires, leads) = let none : None ≡ Some v = lies in cc none
    no_firing zero (Ans (suc (suc h))) w (v, r, lies, fires, leads) = absurd (grind (arith, nat_tests, fires))
    no_firing (suc zero) (Req zero) w (v, r, lies, fires, leads) = let none : None ≡ Some v = lies in cc none
    no_firing (suc zero) (Req (suc h)) w (v, r, lies, fires, leads) = absurd (grind (arith, nat_tests, fires))
    no_firing (suc zero) (Ans h) w (v, r, lies, fires, leads) = cc fires
    no_firing (suc (suc zero)) (Req zero) w (v, r, lies, fires, leads) = let none : None ≡ Some v = lies in cc none
    no_firing (suc (suc zero)) (Req (suc h)) w (v, r, lies, fires, leads) = absurd (grind (arith, nat_tests, fires))
    no_firing (suc (suc zero)) (Ans h) w (v, r, lies, fires, leads) = cc fires
    no_firing (suc (suc (suc i))) t w (v, r, lies, fires, leads) = cc fires

    no_output : (e : End) (v : ℕ) (w : Tokens) → Does write_index_left (Out e v) gone w → ⊥
    no_output (PartEnd i h) v w does = does.0
    no_output (ImportEnd zero zero) v w does = let none = does.1.0 in cc none
    no_output (ImportEnd zero (suc zero)) v w does = let none = does.1.0 in cc none
    no_output (ImportEnd zero (suc (suc zero))) v w does = let none = does.1.0 in cc none
    no_output (ImportEnd zero (suc (suc (suc h)))) v w does = does.1
    no_output (ImportEnd (suc i) h) v w does = does.1
    no_output (ResultEnd zero) v w does = let none = does.1.0 in cc none
    no_output (ResultEnd (suc h)) v w does = does.1

index_is_left : (body : Term) → IsBegun body → RealisesInTurn write_index_left body → ⊥
index_is_left body first realises =
    let runs : Runs write_index_left list at_first gone =
    (run, runs_first, (getting, gets, (got, gives, (writing, writes, (gone, puts, (gone, index_asked, refl)))))) in
    let one = (realises at_first gone list ((λ way e. refl), λ i. refl) runs in_turn).0.1 run runs_first in
    let two = one.5.1 getting gets in
    let three = two.5.1 got gives in
    let four = three.5.1 writing writes in
    let five = four.5.1 gone puts in
    let six = five.5.1 gone index_asked in
    let begun = begins body first one.0 one.1 one.2 one.3 in
    let then = silent body two.0 one.1 two.1 begun two.2 two.3 in
    let number = silent body three.0 two.1 three.1 then three.2 three.3 in
    let held = silent body four.0 three.1 four.1 number four.2 four.3 in
    let write = asked body five.0 four.1 five.1 held five.2 five.3 in
    let index = told body six.0 six.1 (subst (λ (x : Config). Moves (program body) six.0 x six.1) write six.2) six.3 in
    goes_on body (subst (λ (x : Config). Stalled (program body) x) index (six.5.0 quiet))

pub written_index_is_told : WrittenIndexIsTold
written_index_is_told realises = index_is_left write_first (inr (inl refl)) realises

pub applied_index_is_told : RealisesInTurn write_index_left write_applied → ⊥
applied_index_is_told realises = index_is_left write_applied (inl refl) realises
