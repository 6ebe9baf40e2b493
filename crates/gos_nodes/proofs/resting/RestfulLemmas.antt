-- Along a list: where the result is not open all is idle.
use Rattle.std.specs.Prelude.{ℕ, Bool, true, false, List, Option, Some}
use Rattle.std.proofs.Common.{◌≡◌, [], ◌∷◌, ◌++◌, inl, inr, refl, sym, ◌∙◌, ap, subst}
use Rattle.gos_types.specs.declared.shakes.Role.TheVariants.{Ask}
use Rattle.gos_types.specs.Types.{IsDone}
use Rattle.gos_types.specs.Events.{Direction, Request, Answer}
use Rattle.gos_types.proofs.BoolLemmas.{true_is_not_false}
use Rattle.gos_plan.specs.Kinds.{Contact}
use Rattle.gos_plan.specs.Plans.{End, ResultEnd, Plan, contact_at}
use Rattle.gos_plan.specs.Tokens.{Tokens, Element, Fire, Out, In, Passes, end_of, way_of, way_taken, way_put, Does, Runs, IsIdle}
use Rattle.gos_realises.specs.realises.Regular.{Pass, pass, way_in, way_out, is_open, is_request, count, some_open, KeepsTurns, InputsKeepTurns, OutputsKeepTurns, IsRegular}
use Rattle.gos_realises.proofs.realises.GroundTurnLemmas.{done_open}
use Rattle.gos_realises.proofs.realises.InputLemmas.{passed, passed_then, inputs_then, InputTurns, first_turn, later_turns, runs_then, in_there, out_there, result_asks}
use Rattle.gos_realises.proofs.realises.IdleLemmas.{idle_token}
use Rattle.gos_realises.proofs.realises.RingLemmas.{after}
use Rattle.gos_supplies.specs.turns.Rests.{Rests}
use Rattle.gos_supplies.proofs.turns.RestLemmas.{passes_are, IsPortThere, shut_ports, all_shut}
use Rattle.gos_supplies.proofs.turns.GoesLemmas.{IsTurned}
use Rattle.gos_supplies.proofs.turns.TurnedLemmas.{res}
use Rattle.gos_supplies.proofs.turns.WholeLemmas.{first_turned}
use Rattle.gos_plan.proofs.DecidedLemmas.{Told}
use Rattle.gos_realises.proofs.joined.ReachLemmas.{told_end}
use Rattle.gos_realises.proofs.realises.PassLemmas.{open_itself, open_otherwise}
use Rattle.gos_nodes.specs.windows.Nodes.{IsRestful}
use Rattle.gos_nodes.specs.resting.Restful.{RestfulRests}

-- turns are kept after each list
turned_after : (p : Plan) (xs : List Element) (past : List Pass) → IsTurned p past → InputsKeepTurns p past xs → OutputsKeepTurns p past xs
    → IsTurned p (passed p past xs)
turned_after p [] past turned ins outs = turned
turned_after p (Fire i k ∷ xs) past turned ins outs = turned_after p xs past turned ins outs
turned_after p (Out e v ∷ xs) past turned ins outs = turned_after p xs (after p (Out e v) past) outs.0.1 ins outs.1
turned_after p (In e v ∷ xs) past turned ins outs = turned_after p xs (after p (In e v) past) ins.0.1 ins.1 outs

module _ (p : Plan) (done : IsDone p.outcome) (regular : IsRegular p) where
  abbrev result : List Pass → Bool
  result past = is_open past (ResultEnd 0)

  shut_all : (past : List Pass) → result past ≡ false → some_open (count p.outcome) (res past) ≡ true → ⊥
  shut_all past shut busy = true_is_not_false (result past) (done_open p.outcome done (res past) busy) shut

  asked : (c : Contact) → contact_at p (ResultEnd 0) ≡ Some c → c.role ≡ Ask
  asked c there = sym (result_asks p.outcome done 0 c there).1

  module _ (s : Tokens) (idle : IsIdle p s) where
    turned_so : (ys : List Element) (u : Tokens) → Runs p ys s u → InputsKeepTurns p [] ys → IsTurned p (passed p [] ys)
    turned_so ys u runs ins = turned_after p ys [] (first_turned p) ins (regular s u ys idle runs ins).1

    -- an answer of the result shuts all
    rests_after : Rests p → (t : Tokens) (xs : List Element) (v : ℕ) → Runs p (xs ++ Out (ResultEnd 0) v ∷ []) s t
        → InputsKeepTurns p [] (xs ++ Out (ResultEnd 0) v ∷ []) → (u : Tokens) → Does p (Out (ResultEnd 0) v) u t → IsIdle p t
    rests_after rests t xs v runs ins u does =
        rests s t (xs ++ Out (ResultEnd 0) v ∷ []) idle runs ins
        (all_shut p (xs ++ Out (ResultEnd 0) v ∷ []) s t runs (turned_so (xs ++ Out (ResultEnd 0) v ∷ []) t runs ins) (shut_all (passed p [] (xs ++ Out (ResultEnd 0) v ∷ [])) shut))
      where
        there : (c : Contact) × (contact_at p (ResultEnd 0) ≡ Some c)
        there = out_there p (ResultEnd 0) v u t does

        ways : way_out (contact_at p (ResultEnd 0)) ≡ Answer
        ways = ap way_out there.1 ∙ ap way_taken (asked there.0 there.1)

        shut : result (passed p [] (xs ++ Out (ResultEnd 0) v ∷ [])) ≡ false
        shut =
            ap result (passed_then p [] xs (Out (ResultEnd 0) v))
            ∙ (open_itself (ResultEnd 0) (way_out (contact_at p (ResultEnd 0))) (passed p [] xs) ∙ ap is_request ways)

    -- a list so far: where the result is not open all is idle
    record Still (ys : List Element) (u : Tokens) : Type 0 where
      runs : Runs p ys s u
      ins : InputsKeepTurns p [] ys
      still : result (passed p [] ys) ≡ false → IsIdle p u

    module _ (restful : IsRestful p) where
      now_open : (e : End) (v : ℕ) (u w : Tokens) (past : List Pass) → Does p (In e v) u w → e ≡ ResultEnd 0 → result (after p (In e v) past) ≡ true
      now_open e v u w past does same =
          let (c, there) = in_there p e v u w does in
          let at : contact_at p (ResultEnd 0) ≡ Some c = ap (contact_at p) (sym same) ∙ there in
          let ways : way_in (contact_at p e) ≡ Request = ap way_in there ∙ ap way_put (asked c at) in
          ap (is_open (after p (In e v) past)) (sym same) ∙ (open_itself e (way_in (contact_at p e)) past ∙ ap is_request ways)

      was_open : (ys : List Element) (u w : Tokens) (x : Element) → Still ys u → Does p x u w → InputTurns p (passed p [] ys) x
          → result (passed p [] ys) ≡ true → result (after p x (passed p [] ys)) ≡ false → IsIdle p w
      was_open ys u w (Fire i k) so does turn up down = absurd (true_is_not_false (result (passed p [] ys)) up down)
      was_open ys u w (In e v) so does turn up down = by_end (told_end e (ResultEnd 0))
        where
          by_end : Told (e ≡ ResultEnd 0) → IsIdle p w
          by_end (inl same) = absurd (true_is_not_false (result (after p (In e v) (passed p [] ys))) (now_open e v u w (passed p [] ys) does same) down)
          by_end (inr apart) =
              absurd (true_is_not_false (result (passed p [] ys)) up (sym (open_otherwise e (ResultEnd 0) (way_in (contact_at p e)) (passed p [] ys) apart) ∙ down))
      was_open ys u w (Out e v) so does turn up down = by_end (told_end e (ResultEnd 0))
        where
          by_end : Told (e ≡ ResultEnd 0) → IsIdle p w
          by_end (inl same) =
              let own : Does p (Out (ResultEnd 0) v) u w = subst (λ (d : End). Does p (Out d v) u w) same does in
              restful s w ys v idle (runs_then p ys (Out (ResultEnd 0) v) s u w so.runs own) (inputs_then p [] ys (Out (ResultEnd 0) v ∷ []) so.ins tt)
          by_end (inr apart) =
              absurd (true_is_not_false (result (passed p [] ys)) up (sym (open_otherwise e (ResultEnd 0) (way_out (contact_at p e)) (passed p [] ys) apart) ∙ down))

      was_shut : (ys : List Element) (u w : Tokens) (x : Element) → Still ys u → Does p x u w → InputTurns p (passed p [] ys) x
          → result (passed p [] ys) ≡ false → result (after p x (passed p [] ys)) ≡ false → IsIdle p w
      was_shut ys u w (Fire i k) so does turn shut down = absurd (idle_token p u (so.still shut) (end_of i k) (way_of k) does.0 does.2)
      was_shut ys u w (Out e v) so does turn shut down =
          let (c, there) = out_there p e v u w does in
          let moves = subst (λ (o : Option Contact). Passes p (Out e v) o u w) there does.1 in
          absurd (idle_token p u (so.still shut) e (way_taken c.role) v moves.0)
      was_shut ys u w (In e v) so does turn shut down = absurd (by_way (way_in (contact_at p e)) refl turn)
        where
          past : List Pass
          past = passed p [] ys

          port : IsPortThere p e
          port = (does.0, in_there p e v u w does)

          by_way : (way : Direction) → way_in (contact_at p e) ≡ way → KeepsTurns p (passed p [] ys) (pass e way) → ⊥
          by_way Request is keeps =
              shut_ports p (pass e Request ∷ passed p [] ys) keeps.1
              (shut_all (pass e Request ∷ passed p [] ys) (subst (λ (d : Direction). result (pass e d ∷ passed p [] ys) ≡ false) is down)) e port
              (open_itself e Request (passed p [] ys))
          by_way Answer is keeps =
              shut_ports p (passed p [] ys) (turned_so ys u so.runs so.ins) (shut_all (passed p [] ys) shut) e port keeps.0

      one : (ys : List Element) (u w : Tokens) (x : Element) → Still ys u → Does p x u w → InputTurns p (passed p [] ys) x → InputsKeepTurns p (passed p [] ys) (x ∷ [])
          → Still (ys ++ x ∷ []) w
      one ys u w x so does turn ins =
          record {
            runs = runs_then p ys x s u w so.runs does;
            ins = inputs_then p [] ys (x ∷ []) so.ins ins;
            still = λ shut. by_result (result (passed p [] ys)) refl (ap result (sym (passed_then p [] ys x)) ∙ shut);
          }
        where
          by_result : (b : Bool) → result (passed p [] ys) ≡ b → result (after p x (passed p [] ys)) ≡ false → IsIdle p w
          by_result true up down = was_open ys u w x so does turn up down
          by_result false shut down = was_shut ys u w x so does turn shut down

      alone : (past : List Pass) (x : Element) → InputTurns p past x → InputsKeepTurns p past (x ∷ [])
      alone past (Fire i k) turn = tt
      alone past (Out e v) turn = tt
      alone past (In e v) turn = (turn, tt)

      all : (xs ys : List Element) (u t : Tokens) → Still ys u → Runs p xs u t → InputsKeepTurns p (passed p [] ys) xs
          → result (passed p (passed p [] ys) xs) ≡ false → IsIdle p t
      all [] ys u t so runs ins shut = subst (IsIdle p) (sym runs) (so.still shut)
      all (x ∷ xs) ys u t so (w, does, runs) ins shut =
          let turn = first_turn p (passed p [] ys) x xs ins in
          let same = passed_then p [] ys x in
          all xs (ys ++ x ∷ []) w t (one ys u w x so does turn (alone (passed p [] ys) x turn)) runs
          (subst (λ (past : List Pass). InputsKeepTurns p past xs) (sym same) (later_turns p (passed p [] ys) x xs ins))
          (subst (λ (past : List Pass). result (passed p past xs) ≡ false) (sym same) shut)

last_of : (p : Plan) (xs : List Element) (x : Element) (s t : Tokens) → Runs p (xs ++ x ∷ []) s t → (u : Tokens) × Does p x u t
last_of p [] x s t (w, does, same) = (s, subst (Does p x s) (sym same) does)
last_of p (y ∷ xs) x s t (w, does, runs) = last_of p xs x w t runs

pub restful_rests : RestfulRests
restful_rests p done regular = (
  λ restful s t xs idle runs ins shut.
      all p done regular s idle restful xs [] s t (record { runs = refl; ins = tt; still = λ down. idle }) runs ins
      (ap (λ (past : List Pass). is_open past (ResultEnd 0)) (sym (passes_are p [] xs)) ∙ shut (ResultEnd 0)),
  λ rests s t xs v idle runs ins.
      (let (u, does) = last_of p xs (Out (ResultEnd 0) v) s t runs in rests_after p done regular s idle rests t xs v runs ins u does),
)
