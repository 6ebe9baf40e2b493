-- The list of the body in a list of a block, element by element: it is one of the body, and its inputs keep turns.
use Rattle.std.specs.Prelude.{All, List, [], ◌∷◌, ◌++◌}
use Rattle.std.proofs.Common.{sym, subst}
use Rattle.std.proofs.lemmas.List.{append-nil, append_assoc}
use Rattle.gos_plan.specs.Plans.{Plan}
use Rattle.gos_plan.specs.Tokens.{Tokens, Element, Does, Runs, IsIdle}
use Rattle.gos_plan.specs.Orderly.{Open}
use Rattle.gos_plan.specs.TokenBits.{LiteralFits}
use Rattle.gos_joining.specs.webs.Cutting.{cut_tokens}
use Rattle.gos_realises.specs.realises.Regular.{Pass, InputsKeepTurns, IsRegular}
use Rattle.gos_realises.proofs.realises.InputLemmas.{first_turn, later_turns}
use Rattle.gos_realises.proofs.realises.RingLemmas.{after}
use Rattle.gos_nodes.proofs.windows.MeetLemmas.{HasPorts}
use Rattle.gos_nodes.specs.blocks.Block.{Block, IsBlock}
use Rattle.gos_nodes.proofs.blocks.StepLemmas.{step}
use Rattle.gos_nodes.proofs.blocks.RegularLemmas.{Holds, Went, inside_of, After, next_of}

module _
    (r : Plan) (b : Block) (is : IsBlock r b) (literals : All LiteralFits r.parts) (ports : HasPorts r b.cut b.body) (regular : IsRegular b.body) (first : Tokens)
    (rests : IsIdle r first) where
  abbrev Inside : Tokens → Tokens
  Inside = cut_tokens b.cut b.body

  abbrev HoldsHere : Tokens → List Pass → List Element → Open → Open → Type 0
  HoldsHere = Holds r b is literals ports regular first rests

  abbrev pub by_body : (x : Element) (s w : Tokens) → Went r b is literals ports regular first rests x s w → List Element
  by_body = inside_of r b is literals ports regular first rests

  -- the first element
  abbrev pub one_on : (x : Element) (xs : List Element) (s w : Tokens) (past : List Pass) (hs : List Element) (o lo : Open) → HoldsHere s past hs o lo
      → Does r x s w → InputsKeepTurns r past (x ∷ xs) → After r b is literals ports regular first rests x s w past hs o
  one_on x xs s w past hs o lo holds does turns =
      next_of r b is literals ports regular first rests x s w past hs o lo holds does (first_turn r past x xs turns) (step r b is literals x s w holds.sound does)

  -- what is left of the list of the body
  abbrev pub body_rest : (xs : List Element) (s t : Tokens) (past : List Pass) (hs : List Element) (o lo : Open) → HoldsHere s past hs o lo
      → Runs r xs s t → InputsKeepTurns r past xs → List Element
  body_rest [] s t past hs o lo holds runs turns = []
  body_rest (x ∷ xs) s t past hs o lo holds (w, does, runs) turns =
      let one = one_on x xs s w past hs o lo holds does turns in
      by_body x s w one.went
      ++ body_rest xs w t (after r x past) (hs ++ by_body x s w one.went) one.now one.lo one.holds runs (later_turns r past x xs turns)

  abbrev Lists : List Element → Tokens → Tokens → Type 0
  Lists ys s t = Runs b.body ys s t × InputsKeepTurns b.body [] ys

  -- with what it did before it is a list of it
  pub walked : (xs : List Element) (s t : Tokens) (past : List Pass) (hs : List Element) (o lo : Open) (holds : HoldsHere s past hs o lo) (runs : Runs r xs s t)
      (turns : InputsKeepTurns r past xs) → Lists (hs ++ body_rest xs s t past hs o lo holds runs turns) (Inside first) (Inside t)
  walked [] s t past hs o lo holds runs turns =
      subst (λ (u : Tokens). Lists (hs ++ []) (Inside first) (Inside u)) (sym runs)
      (subst (λ (l : List Element). Lists l (Inside first) (Inside s)) (sym (append-nil hs)) (holds.body.runs, holds.body.inputs))
  walked (x ∷ xs) s t past hs o lo holds (w, does, runs) turns =
      let one = one_on x xs s w past hs o lo holds does turns in
      let ys = by_body x s w one.went in
      let later = later_turns r past x xs turns in
      subst (λ (l : List Element). Lists l (Inside first) (Inside t))
      (append_assoc hs ys (body_rest xs w t (after r x past) (hs ++ ys) one.now one.lo one.holds runs later))
      (walked xs w t (after r x past) (hs ++ ys) one.now one.lo one.holds runs later)
