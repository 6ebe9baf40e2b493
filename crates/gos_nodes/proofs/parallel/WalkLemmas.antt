-- The lists of the regions in a list of the whole, element by element: they are lists of theirs, and their inputs keep turns.
use Rattle.std.specs.Prelude.{All, List, [], ◌∷◌, ◌++◌}
use Rattle.std.proofs.Common.{ℕ, sym, subst}
use Rattle.std.proofs.lemmas.List.{append-nil, append_assoc}
use Rattle.gos_plan.specs.Plans.{Plan}
use Rattle.gos_plan.specs.Tokens.{Tokens, Element, Does, Runs, IsIdle}
use Rattle.gos_plan.specs.Orderly.{Open}
use Rattle.gos_plan.specs.TokenBits.{LiteralFits}
use Rattle.gos_joining.specs.webs.Cutting.{Cut, cut_tokens}
use Rattle.gos_realises.specs.realises.Regular.{Pass, InputsKeepTurns, IsRegular}
use Rattle.gos_realises.proofs.realises.InputLemmas.{first_turn, later_turns}
use Rattle.gos_realises.proofs.realises.RingLemmas.{after}
use Rattle.gos_nodes.proofs.windows.MeetLemmas.{HasPorts}
use Rattle.gos_nodes.specs.parallel.Parallel.{IsParallel}
use Rattle.gos_nodes.proofs.parallel.StepLemmas.{step}
use Rattle.gos_nodes.proofs.parallel.RegularLemmas.{Holds, Went, left_of, right_of, After, next}

module _
    (d : ℕ) (f g : Cut) (r p q : Plan) (is : IsParallel d f g r p q) (literals : All LiteralFits r.parts) (left_ports : HasPorts r f p) (right_ports : HasPorts r g q)
    (left_regular : IsRegular p) (right_regular : IsRegular q) (first : Tokens) (rests : IsIdle r first) where
  abbrev Lefts : Tokens → Tokens
  Lefts = cut_tokens f p

  abbrev Rights : Tokens → Tokens
  Rights = cut_tokens g q

  abbrev HoldsHere : Tokens → List Pass → List Element → List Element → Open → Open → Open → Type 0
  HoldsHere = Holds d f g r p q is literals left_ports right_ports left_regular right_regular first rests

  abbrev WentHere : Element → Tokens → Tokens → Type 0
  WentHere = Went d f g r p q is literals left_ports right_ports left_regular right_regular first rests

  abbrev AfterHere : Element → Tokens → Tokens → List Pass → List Element → List Element → Open → Type 0
  AfterHere = After d f g r p q is literals left_ports right_ports left_regular right_regular first rests

  abbrev pub by_left : (x : Element) (s w : Tokens) → WentHere x s w → List Element
  by_left = left_of d f g r p q is literals left_ports right_ports left_regular right_regular first rests

  abbrev pub by_right : (x : Element) (s w : Tokens) → WentHere x s w → List Element
  by_right = right_of d f g r p q is literals left_ports right_ports left_regular right_regular first rests

  -- the first element
  abbrev pub one_on : (x : Element) (xs : List Element) (s w : Tokens) (past : List Pass) (hs ks : List Element) (o lo ro : Open) → HoldsHere s past hs ks o lo ro
      → Does r x s w → InputsKeepTurns r past (x ∷ xs) → AfterHere x s w past hs ks o
  one_on x xs s w past hs ks o lo ro holds does turns =
      next d f g r p q is literals left_ports right_ports left_regular right_regular first rests x s w past hs ks o lo ro holds does (first_turn r past x xs turns)
      (step d f g r p q is literals x s w holds.fit does)

  -- what is left of the lists of the regions
  abbrev pub left_list : (xs : List Element) (s t : Tokens) (past : List Pass) (hs ks : List Element) (o lo ro : Open) → HoldsHere s past hs ks o lo ro
      → Runs r xs s t → InputsKeepTurns r past xs → List Element
  left_list [] s t past hs ks o lo ro holds runs turns = []
  left_list (x ∷ xs) s t past hs ks o lo ro holds (w, does, runs) turns =
      let one = one_on x xs s w past hs ks o lo ro holds does turns in
      by_left x s w one.went
      ++ left_list xs w t (after r x past) (hs ++ by_left x s w one.went) (ks ++ by_right x s w one.went) one.now one.lo one.ro one.holds runs (later_turns r past x xs turns)

  abbrev pub right_list : (xs : List Element) (s t : Tokens) (past : List Pass) (hs ks : List Element) (o lo ro : Open) → HoldsHere s past hs ks o lo ro
      → Runs r xs s t → InputsKeepTurns r past xs → List Element
  right_list [] s t past hs ks o lo ro holds runs turns = []
  right_list (x ∷ xs) s t past hs ks o lo ro holds (w, does, runs) turns =
      let one = one_on x xs s w past hs ks o lo ro holds does turns in
      by_right x s w one.went
      ++ right_list xs w t (after r x past) (hs ++ by_left x s w one.went) (ks ++ by_right x s w one.went) one.now one.lo one.ro one.holds runs (later_turns r past x xs turns)

  abbrev Lists : Plan → List Element → Tokens → Tokens → Type 0
  Lists c ys s t = Runs c ys s t × InputsKeepTurns c [] ys

  -- with what they did before they are lists of theirs
  pub walked : (xs : List Element) (s t : Tokens) (past : List Pass) (hs ks : List Element) (o lo ro : Open) (holds : HoldsHere s past hs ks o lo ro)
      (runs : Runs r xs s t) (turns : InputsKeepTurns r past xs)
      → Lists p (hs ++ left_list xs s t past hs ks o lo ro holds runs turns) (Lefts first) (Lefts t)
      × Lists q (ks ++ right_list xs s t past hs ks o lo ro holds runs turns) (Rights first) (Rights t)
  walked [] s t past hs ks o lo ro holds runs turns = (
    subst (λ (u : Tokens). Lists p (hs ++ []) (Lefts first) (Lefts u)) (sym runs)
        (subst (λ (l : List Element). Lists p l (Lefts first) (Lefts s)) (sym (append-nil hs)) (holds.left.runs, holds.left.inputs)),
    subst (λ (u : Tokens). Lists q (ks ++ []) (Rights first) (Rights u)) (sym runs)
        (subst (λ (l : List Element). Lists q l (Rights first) (Rights s)) (sym (append-nil ks)) (holds.right.runs, holds.right.inputs)),
  )
  walked (x ∷ xs) s t past hs ks o lo ro holds (w, does, runs) turns =
      let one = one_on x xs s w past hs ks o lo ro holds does turns in
      let ys = by_left x s w one.went in
      let zs = by_right x s w one.went in
      let later = later_turns r past x xs turns in
      let (lefts, rights) = walked xs w t (after r x past) (hs ++ ys) (ks ++ zs) one.now one.lo one.ro one.holds runs later in (
        subst (λ (l : List Element). Lists p l (Lefts first) (Lefts t))
            (append_assoc hs ys (left_list xs w t (after r x past) (hs ++ ys) (ks ++ zs) one.now one.lo one.ro one.holds runs later)) lefts,
        subst (λ (l : List Element). Lists q l (Rights first) (Rights t))
            (append_assoc ks zs (right_list xs w t (after r x past) (hs ++ ys) (ks ++ zs) one.now one.lo one.ro one.holds runs later)) rights,
      )
