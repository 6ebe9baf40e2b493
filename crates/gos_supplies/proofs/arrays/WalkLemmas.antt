-- The plan of an access is matched: its own plan goes along its stages, and while the array waits for its index the plan of the index
-- goes on, as often as the array asks.
use Rattle.std.specs.Prelude.{◌≡◌, ◌≢◌, ◌⊎◌, ℕ, zero, suc, Bool, true, false, ◌||◌, not, IsTrue, IsFalse, List, [], ◌∷◌, ◌++◌, Option, Some, None, All, slice_get, if◌then◌else◌}
use Rattle.std.proofs.Common.{refl, sym, ◌∙◌, ap, subst, arith, inl, inr}
use Rattle.gos_types.specs.Events.{Direction, Request, Answer}
use Rattle.gos_types.specs.Types.{Type', Exp}
use Rattle.gos_types.proofs.BoolLemmas.{true_is_not_false}
use Rattle.gos_model.specs.Terms.{Name, Term, Import, App, Lit}
use Rattle.gos_model.specs.Typing.{Imported, Imports, Typed, import_type}
use Rattle.gos_model.specs.Stores.{Store}
use Rattle.gos_model.specs.Accesses.{IsArrayImport}
use Rattle.gos_model.specs.Labels.{Port, Given, Taken, Label, given, taken, is_output_at, is_answer}
use Rattle.gos_model.specs.Protocol.{is_open, same_port, Allowed, FitsAnswer, event_of}
use Rattle.gos_model.specs.ArrayPorts.{is_asked, AllowedAtArray, KeepsPortsAfter}
use Rattle.gos_model.specs.Moves.{Program, Config, Idle, Running, Act, Showing, Moves, labels, Stalled}
use Rattle.gos_model.proofs.MoveLemmas.{moves_then, labels_then}
use Rattle.gos_plan.specs.Firing.{Rest, State, Slot, Req, Ans}
use Rattle.gos_plan.specs.Kinds.{Part, Contact}
use Rattle.gos_plan.specs.Plans.{End, PartEnd, ImportEnd, ResultEnd, Plan, contact_at}
use Rattle.gos_plan.specs.Tokens.{Tokens, Element, Fire, Out, In, way_of, way_taken, end_of, Passes, Does, Runs, IsIdle}
use Rattle.gos_plan.specs.TokenBits.{LiteralFits, AllFit}
use Rattle.gos_plan.specs.Orderly.{Open}
use Rattle.gos_plan.proofs.TokenBitsLemmas.{all_stay_fit}
use Rattle.gos_realises.specs.realises.Matched.{port_if, event_number, label_at, shows, all_shown, GoesOn, Agrees, IsMatched, program_of}
use Rattle.gos_realises.specs.realises.Realises.{NamesDiffer}
use Rattle.gos_realises.proofs.realises.InputLemmas.{in_there, out_there}
use Rattle.gos_plan.proofs.ElementLemmas.{firing_part}
use Rattle.gos_plan.proofs.JointLemmas.{listed, contained}
use Rattle.gos_realises.proofs.realises.IdleLemmas.{idle_token}
use Rattle.gos_realises.proofs.realises.PlaceLemmas.{contains_at, place_of}
use Rattle.gos_realises.proofs.realises.MatchedLemmas.{matched_agrees}
use Rattle.gos_realises.proofs.realises.SkipLemmas.{run_is_no_output}
use Rattle.gos_joining.specs.webs.Webs.{joint}
use Rattle.gos_joining.specs.webs.Cutting.{Cut, lies_at, asks_in, cut_tokens}
use Rattle.gos_joining.proofs.webs.CutLemmas.{asks_one, asks_there}
use Rattle.gos_joining.proofs.renumbered.ImportLemmas.{has_type, type_has}
use Rattle.gos_programs.specs.contexts.Contexts.{plug}
use Rattle.gos_programs.specs.contexts.Plugged.{AreInner}
use Rattle.gos_programs.specs.contexts.Widening.{AreAmong}
use Rattle.gos_programs.proofs.contexts.WideningLemmas.{sources_known, runs_known}
use Rattle.gos_supplies.specs.arrays.Accesses.{Access, accessing, waiting, index_of}
use Rattle.gos_supplies.specs.arrays.Made.{IsJointOf, IsAccess}
use Rattle.gos_supplies.proofs.names.TrackLemmas.{Follows}
use Rattle.gos_programs.proofs.contexts.SilentLemmas.{silent_inner, one_inner, inner_stays, asked_first, answer_last, idle_shows}
use Rattle.gos_supplies.proofs.arrays.IndexLemmas.{index_begins, index_moves, index_waits_so, index_ends_so, waiting_is_stalled}
use Rattle.gos_supplies.proofs.arrays.LabelLemmas.{array_there}
use Rattle.gos_supplies.proofs.arrays.SideLemmas.{quiet_within, goes_on_within, part_at}
use Rattle.gos_supplies.proofs.arrays.ElementLemmas.{Whose, Own, Index, Neither, of_numbers, whose, own_part, index_part, own_name, index_name, own_side, index_side, splits}
use Rattle.gos_supplies.proofs.arrays.CleanLemmas.{IsClean, stays_clean}
use Rattle.gos_supplies.proofs.arrays.ShownLemmas.{own_list, index_list, first_port, port_of, there_by, other_name}
use Rattle.gos_supplies.proofs.arrays.DoneLemmas.{IsEnd, raised, ends_away, own_is, index_is, Tells, Later, later, index_tells, other_port_tells, other_port_asked, away_told, asked_then, config_of, resting_is, running_apart, Done, done}
use Rattle.gos_supplies.proofs.arrays.StandLemmas.{Stand, Resting, Away, Goes, IsAccessTrack}

-- an idle plan does nothing but take inputs
idle_fires : (q : Plan) (s t : Tokens) (k : ℕ) (slot : Slot) → IsIdle q s → Does q (Fire k slot) s t → ⊥
idle_fires q s t k slot idle (v, row, held, by, leads) = idle_token q s idle (end_of k slot) (way_of slot) v held

idle_puts : (q : Plan) (s t : Tokens) (e : End) (v : ℕ) → IsIdle q s → Does q (Out e v) s t → ⊥
idle_puts q s t e v idle (port, passes) = by_contact (contact_at q e) refl
  where
    by_contact : (o : Option Contact) → contact_at q e ≡ o → ⊥
    by_contact None there = subst (λ (o : Option Contact). Passes q (Out e v) o s t) there passes
    by_contact (Some k) there =
        idle_token q s idle e (way_taken k.role) v (subst (λ (o : Option Contact). Passes q (Out e v) o s t) there passes).0

module _
    (a : Access) (i w : ℕ) (x : Name) (n : Term) (f g : Cut) (r p q : Plan) (is : IsAccess i w x f g r p q) (differ : NamesDiffer r.imports)
    (literals : All LiteralFits r.parts) (typed : Typed q.imports [] n (Exp i)) where
  abbrev pub whole_program : Program
  whole_program = program_of r (accessing a w (App (Import x) n))

  abbrev pub index_program : Program
  index_program = program_of q n

  array : IsArrayImport r.imports x i w
  array = ap (λ (us : Imports). import_type us x) is.imports ∙ array_there x i w q.imports

  among : AreAmong q.imports r.imports
  among y t h =
      let (m, there, named, ty) = has_type q.imports y t h in
      let (k, at) = place_of q.imports m there in
      type_has r.imports differ y m (contains_at r.imports (suc k) m (ap (λ (us : List Imported). slice_get us (suc k)) is.imports ∙ at)) named ∙ ap Some ty

  -- where both sides are idle the whole is
  idle_whole : (s : Tokens) → IsClean r s → IsIdle p (cut_tokens f p s) → IsIdle q (cut_tokens g q s) → IsIdle r s
  idle_whole s clean own index = (lies, rests)
    where
      of_own : (way : Direction) (d e : End) → asks_in p.joints d ≡ true → lies_at f d ≡ e → s.in_place way e ≡ None
      of_own way d e asks at =
          ap (s.in_place way) (sym at) ∙ (sym (ap (λ (b : Bool). if b then s.in_place way (lies_at f d) else None) asks) ∙ own.0 way d)

      of_index : (way : Direction) (d e : End) → asks_in q.joints d ≡ true → lies_at g d ≡ e → s.in_place way e ≡ None
      of_index way d e asks at =
          ap (s.in_place way) (sym at) ∙ (sym (ap (λ (b : Bool). if b then s.in_place way (lies_at g d) else None) asks) ∙ index.0 way d)

      lies : (way : Direction) (e : End) → s.in_place way e ≡ None
      lies way e = by_test (asks_in r.joints e) refl
        where
          by_side : (b : End) → IsJointOf f p e b ⊎ IsJointOf g q e b → s.in_place way e ≡ None
          by_side b (inl (d, c, has, first, last)) =
              of_own way d e (asks_there p.joints (joint d c) (contained p.joints (joint d c) has)) first
          by_side b (inr (d, c, has, first, last)) =
              of_index way d e (asks_there q.joints (joint d c) (contained q.joints (joint d c) has)) first

          by_test : (b : Bool) → asks_in r.joints e ≡ b → s.in_place way e ≡ None
          by_test false none = clean.places way e none
          by_test true some =
              let one = asks_one r.joints e some in
              by_side one.joint.serving
              (subst (λ (d : End). IsJointOf f p d one.joint.serving ⊎ IsJointOf g q d one.joint.serving) (sym one.asker)
              (is.joints one.joint.asking one.joint.serving (listed r.joints one.joint one.is_in)))

      rests : (k : ℕ) → (s.state k).phase ≡ Rest
      rests k = by_part (slice_get r.parts k) refl
        where
          by_side : ((j : ℕ) × (f.number k ≡ Some j) × (g.number k ≡ None)) ⊎ ((j : ℕ) × (g.number k ≡ Some j) × (f.number k ≡ None)) → (s.state k).phase ≡ Rest
          by_side (inl (j, number, none)) =
              let (at, (kind, there)) = is.own.numbers k j number in
              ap (λ (l : ℕ). (s.state l).phase) (sym at)
              ∙ (ap (λ (z : State). z.phase) (sym (part_at f r p own_name (own_side i w x f g r p q is) s j kind there)) ∙ own.1 j)
          by_side (inr (j, number, none)) =
              let (at, (kind, there)) = is.index.numbers k j number in
              ap (λ (l : ℕ). (s.state l).phase) (sym at)
              ∙ (ap (λ (z : State). z.phase) (sym (part_at g r q index_name (index_side i w x f g r p q is) s j kind there)) ∙ index.1 j)

          by_part : (o : Option Part) → slice_get r.parts k ≡ o → (s.state k).phase ≡ Rest
          by_part None none = clean.states k none
          by_part (Some z) there = by_side (is.parts k z there)

  module _
      (S : Type 0) (Next : S → Element → Type 0) (succ : S → Element → S) (At : S → Tokens → Type 0) (OpenAt : S → Open → Type 0)
      (Opened : S → (End → Bool) → Type 0) (stand : S → Stand) (track : IsAccessTrack a w p S Next succ At OpenAt Opened stand) where
    -- what the whole's program is at: as its own plan stands, or within the index
    abbrev pub whole : S → Term → Config → Config
    whole z j Idle = config_of a i w x n j (stand z)
    whole z j (Running m st) = Running (plug (index_of a x n) m) st

    -- the index runs exactly where the array has asked for it, within the access
    abbrev pub InIndex : Config → List Label → S → Type 0
    InIndex Idle past z = is_asked past x ≡ false
    InIndex (Running m st) past z =
        (is_asked past x ≡ true) × (stand z ≡ Away) × ((acts : List Act) × Moves index_program acts Idle (Running m st))

    pub record Stands (ys : List Element) (z : S) (s : Tokens) (c : Config) (past : List Label) : Type 0 where
      pub here : At z (cut_tokens f p s)
      pub fit : AllFit r s
      pub clean : IsClean r s
      pub keeps : KeepsPortsAfter r.imports past (all_shown r ys)
      pub follows : Follows S Next succ (own_list f g ys) z
      pub matched : IsMatched q index_program (index_list f g ys) (cut_tokens g q s) c
      pub index : InIndex c past z
      pub tells : Tells a x past (stand z)

    idle_waits : Stalled whole_program Idle
    idle_waits = (λ d move. let e = move.0 in cc e, λ o d out move. run_is_no_output o out move.0)

    config_waits : (j : Term) (m : Stand) → (m ≡ Resting) ⊎ (m ≡ Away) → Stalled whole_program (config_of a i w x n j m)
    config_waits j m (inl e) = subst (λ (k : Stand). Stalled whole_program (config_of a i w x n j k)) (sym e) idle_waits
    config_waits j m (inr e) =
        subst (λ (k : Stand). Stalled whole_program (config_of a i w x n j k)) (sym e) (waiting_is_stalled whole_program x n j a [])

    agrees : (ys : List Element) (z : S) (s : Tokens) (j : Term) (c : Config) (past : List Label) → Stands ys z s c past
        → Agrees r whole_program s (whole z j c)
    agrees ys z s j Idle past so = (
      λ quiet. config_waits j (stand z) (track.quiet z (cut_tokens f p s) so.here (quiet_within f r p own_name (own_side i w x f g r p q is) s quiet)),
      λ e. idle_whole s so.clean (track.idle z (cut_tokens f p s) so.here (resting_is a i w x n j (stand z) e))
          ((matched_agrees q index_program (index_list f g ys) (cut_tokens g q s) Idle so.matched).1 refl),
    )
    agrees ys z s j (Running m st) past so = (
      λ quiet. index_waits_so index_program whole_program a x n m st among
          (runs_known index_program so.index.2.0 m st (sources_known q.imports [] n (Exp i) typed) so.index.2.1)
          ((matched_agrees q index_program (index_list f g ys) (cut_tokens g q s) (Running m st) so.matched).0
          (quiet_within g r q index_name (index_side i w x f g r p q is) s quiet)),
      λ e. absurd (running_apart (plug (index_of a x n) m) st e),
    )

    -- one element more
    record Stepped (y : Element) (ys : List Element) (s t : Tokens) (z : S) (j : Term) (c : Config) (past : List Label) : Type 0 where
      acts : List Act
      stage : S
      last : Term
      state : Config
      moves : Moves whole_program acts (whole z j c) (whole stage last state)
      shown : labels acts ≡ shows r y
      goes : GoesOn r s y acts
      stands : Stands ys stage t state (shows r y ++ past)

    keeps_on : (y : Element) (ys : List Element) (past : List Label)
        → KeepsPortsAfter r.imports past (all_shown r (y ∷ ys)) → KeepsPortsAfter r.imports (shows r y ++ past) (all_shown r ys)
    keeps_on (Fire k slot) ys past keeps = keeps
    keeps_on (Out e v) ys past keeps = keeps.1
    keeps_on (In e v) ys past keeps = keeps.1

    fit_on : (y : Element) (s t : Tokens) → AllFit r s → Does r y s t → AllFit r t
    fit_on y s t fit does = all_stay_fit r (y ∷ []) s t is.own.whole_right literals fit (t, does, refl)

    -- what the whole shows where its own plan makes an element
    raised_is : (y e : Element) → whose f g y ≡ Own e → shows r y ≡ raised x e
    raised_is (Fire k slot) e own = by_numbers (f.number k) (g.number k) own
      where
        by_numbers : (b c : Option ℕ) → of_numbers b c slot ≡ Own e → [] ≡ raised x e
        by_numbers (Some l) c same = ap (raised x) (own_is (Fire l slot) e same)
        by_numbers None (Some l) same = absurd (cc same)
        by_numbers None None same = absurd (cc same)
    raised_is (Out (PartEnd k h) v) e own = absurd (cc own)
    raised_is (Out (ImportEnd zero zero) v) e own = absurd (cc own)
    raised_is (Out (ImportEnd zero (suc h)) v) e own =
        ap (λ (l : Label). l ∷ []) (first_port i w x f g r p q is differ Request v (suc h)) ∙ ap (raised x) (own_is (Out (ImportEnd 0 h) v) e own)
    raised_is (Out (ImportEnd (suc k) h) v) e own = absurd (cc own)
    raised_is (Out (ResultEnd h) v) e own = ap (raised x) (own_is (Out (ResultEnd h) v) e own)
    raised_is (In (PartEnd k h) v) e own = absurd (cc own)
    raised_is (In (ImportEnd zero zero) v) e own = absurd (cc own)
    raised_is (In (ImportEnd zero (suc h)) v) e own =
        ap (λ (l : Label). l ∷ []) (first_port i w x f g r p q is differ Answer v (suc h)) ∙ ap (raised x) (own_is (In (ImportEnd 0 h) v) e own)
    raised_is (In (ImportEnd (suc k) h) v) e own = absurd (cc own)
    raised_is (In (ResultEnd h) v) e own = ap (raised x) (own_is (In (ResultEnd h) v) e own)

    -- an answer to the access doesn't come while the array waits for its index
    no_end : (y e : Element) (past ls : List Label) → whose f g y ≡ Own e → IsEnd e → KeepsPortsAfter r.imports past (shows r y ++ ls) → is_asked past x ≡ true → ⊥
    no_end (Fire k slot) e past ls own end keeps up = by_numbers (f.number k) (g.number k) own
      where
        by_numbers : (b c : Option ℕ) → of_numbers b c slot ≡ Own e → ⊥
        by_numbers (Some l) c same = subst IsEnd (sym (own_is (Fire l slot) e same)) end
        by_numbers None (Some l) same = cc same
        by_numbers None None same = cc same
    no_end (Out (PartEnd k h) v) e past ls own end keeps up = cc own
    no_end (Out (ImportEnd zero zero) v) e past ls own end keeps up = cc own
    no_end (Out (ImportEnd zero (suc h)) v) e past ls own end keeps up = subst IsEnd (sym (own_is (Out (ImportEnd 0 h) v) e own)) end
    no_end (Out (ImportEnd (suc k) h) v) e past ls own end keeps up = cc own
    no_end (Out (ResultEnd h) v) e past ls own end keeps up = subst IsEnd (sym (own_is (Out (ResultEnd h) v) e own)) end
    no_end (In (PartEnd k h) v) e past ls own end keeps up = cc own
    no_end (In (ImportEnd zero zero) v) e past ls own end keeps up = cc own
    no_end (In (ImportEnd zero (suc h)) v) e past ls own end keeps up =
        no_answer (event_number Answer (suc h)) (input_number h)
        (subst (λ (l : Label). KeepsPortsAfter r.imports past (l ∷ ls)) (first_port i w x f g r p q is differ Answer v (suc h)) keeps).0
      where
        input_number : (h : ℕ) → is_answer (event_number Answer (suc h)) ≡ true
        input_number zero = refl
        input_number (suc h) =
            let twice : event_number Answer (suc (suc h)) ≡ suc (suc (event_number Answer (suc h))) = omega arith in
            ap is_answer twice ∙ input_number h

        no_answer : (m : ℕ) → is_answer m ≡ true → (IsFalse (is_output_at (Taken x) m) → Allowed r.imports past (Taken x) m v ⊎ AllowedAtArray r.imports past (Taken x) m v) → ⊥
        no_answer m input may = by_case (may (ap not input))
          where
            by_case : Allowed r.imports past (Taken x) m v ⊎ AllowedAtArray r.imports past (Taken x) m v → ⊥
            by_case (inl (fits, opened)) = subst (λ (o : Option Type'). FitsAnswer (event_of o m) v) array fits
            by_case (inr (k, u, known, shut, rest)) = true_is_not_false (is_asked past x) up shut
    no_end (In (ImportEnd (suc k) h) v) e past ls own end keeps up = cc own
    no_end (In (ResultEnd h) v) e past ls own end keeps up = subst IsEnd (sym (own_is (In (ResultEnd h) v) e own)) end

    -- what a firing goes on with
    own_goes : (y e : Element) (s : Tokens) (acts : List Act) → whose f g y ≡ Own e → ((acts ≢ []) ⊎ ((acts ≡ []) × GoesOn p (cut_tokens f p s) e [])) → GoesOn r s y acts
    own_goes (Out d v) e s acts own some = tt
    own_goes (In d v) e s acts own some = tt
    own_goes (Fire k (Req h)) e s acts own some = tt
    own_goes (Fire k (Ans h)) e s acts own (inl some) = λ v row held by up. some
    own_goes (Fire k (Ans h)) e s acts own (inr (none, goes)) =
        subst (λ (b : List Act). GoesOn r s (Fire k (Ans h)) b) (sym none) (by_numbers (f.number k) (g.number k) refl own)
      where
        by_numbers : (b c : Option ℕ) → f.number k ≡ b → of_numbers b c (Ans h) ≡ Own e → GoesOn r s (Fire k (Ans h)) []
        by_numbers (Some l) c number same =
            goes_on_within f r p own_name (own_side i w x f g r p q is) k l (Ans h) s [] number
            (subst (λ (d : Element). GoesOn p (cut_tokens f p s) d []) (sym (own_is (Fire l (Ans h)) e same)) goes)
        by_numbers None (Some l) number same = absurd (cc same)
        by_numbers None None number same = absurd (cc same)

    own_step : (y e : Element) (ys : List Element) (z : S) (s t : Tokens) (j : Term) (c : Config) (past : List Label)
        → whose f g y ≡ Own e → Stands (y ∷ ys) z s c past → Does r y s t → Stepped y ys s t z j c past
    own_step y e ys z s t j (Running m st) past own so does =
        let follows : Follows S Next succ (e ∷ own_list f g ys) z =
        subst (λ (o : Whose). Follows S Next succ (own_part o ++ own_list f g ys) z) own so.follows in
        let end = ends_away a w e (stand z) (stand (succ z e)) (track.goes z e follows.0) so.index.1 in
        absurd (no_end y e past (all_shown r ys) own end so.keeps so.index.0)
    own_step y e ys z s t j Idle past own so does =
        record {
          acts = act.acts;
          stage = succ z e;
          last = n;
          state = Idle;
          moves = act.moves;
          shown = act.shown ∙ sym labelled;
          goes = own_goes y e s act.acts own (some act.some);
          stands =
              record {
                here = subst (At (succ z e)) (sym own_does.2) (track.track.leads z e (cut_tokens f p s) own_does.0 follows.0 so.here own_does.1);
                fit = fit_on y s t so.fit does;
                clean = stays_clean r y s t does so.clean;
                keeps = keeps_on y ys past so.keeps;
                follows = follows.1;
                matched = subst (λ (u : Tokens). IsMatched q index_program (index_list f g ys) u Idle) (sym stays)
                    (subst (λ (o : Whose). IsMatched q index_program (index_part o ++ index_list f g ys) (cut_tokens g q s) Idle) own so.matched);
                index = subst (λ (ls : List Label). is_asked (ls ++ past) x ≡ false) (sym labelled) (then.asked ∙ so.index);
                tells = subst (λ (ls : List Label). Tells a x (ls ++ past) (stand (succ z e))) (sym labelled) then.tells;
              };
        }
      where
        labelled : shows r y ≡ raised x e
        labelled = raised_is y e own

        follows : Follows S Next succ (e ∷ own_list f g ys) z
        follows = subst (λ (o : Whose). Follows S Next succ (own_part o ++ own_list f g ys) z) own so.follows

        goes : Goes a w e (stand z) (stand (succ z e))
        goes = track.goes z e follows.0

        act : Done i w x n whole_program array a e j (stand z) (stand (succ z e))
        act = done i w x n whole_program array a e j (stand z) (stand (succ z e)) refl goes

        then : Later a x past e (stand (succ z e))
        then = later a w x e (stand z) (stand (succ z e)) past goes so.tells

        own_does : Runs p (e ∷ []) (cut_tokens f p s) (cut_tokens f p t)
        own_does =
            subst (λ (o : Whose). Runs p (own_part o) (cut_tokens f p s) (cut_tokens f p t)) own (splits i w x f g r p q is literals s t so.fit y does).own

        stays : cut_tokens g q t ≡ cut_tokens g q s
        stays =
            subst (λ (o : Whose). Runs q (index_part o) (cut_tokens g q s) (cut_tokens g q t)) own (splits i w x f g r p q is literals s t so.fit y does).index

        some : (act.acts ≢ []) ⊎ ((act.acts ≡ []) × (stand z ≡ stand (succ z e))) → (act.acts ≢ []) ⊎ ((act.acts ≡ []) × GoesOn p (cut_tokens f p s) e [])
        some (inl h) = inl h
        some (inr (none, same)) = inr (none, track.goes_on z e (cut_tokens f p s) follows.0 so.here same)

    -- what the index makes of an element of its own
    record OfIndex (e : Element) (ys : List Element) (s t : Tokens) (c : Config) : Type 0 where
      does : Does q e (cut_tokens g q s) (cut_tokens g q t)
      acts : List Act
      state : Config
      moves : Moves index_program acts c state
      shown : labels acts ≡ shows q e
      goes : GoesOn q (cut_tokens g q s) e acts
      matched : IsMatched q index_program (index_list f g ys) (cut_tokens g q t) state
      stays : cut_tokens f p t ≡ cut_tokens f p s

    of_index : (y e : Element) (ys : List Element) (z : S) (s t : Tokens) (c : Config) (past : List Label)
        → whose f g y ≡ Index e → Stands (y ∷ ys) z s c past → Does r y s t → OfIndex e ys s t c
    of_index y e ys z s t c past index so does =
        let both = splits i w x f g r p q is literals s t so.fit y does in
        let (u, one, there) = subst (λ (o : Whose). Runs q (index_part o) (cut_tokens g q s) (cut_tokens g q t)) index both.index in
        let here : Does q e (cut_tokens g q s) (cut_tokens g q t) = subst (λ (v : Tokens). Does q e (cut_tokens g q s) v) (sym there) one in
        let matched : IsMatched q index_program (e ∷ index_list f g ys) (cut_tokens g q s) c =
        subst (λ (o : Whose). IsMatched q index_program (index_part o ++ index_list f g ys) (cut_tokens g q s) c) index so.matched in
        let (acts, d, moves, shown, goes, rest) = matched.1 (cut_tokens g q t) here in
        record {
          does = here;
          acts = acts;
          state = d;
          moves = moves;
          shown = shown;
          goes = goes;
          matched = rest;
          stays = subst (λ (o : Whose). Runs p (own_part o) (cut_tokens f p s) (cut_tokens f p t)) index both.own;
        }

    -- where the index stands idle its plan is
    index_idle : (ys : List Element) (z : S) (s : Tokens) (past : List Label) → Stands ys z s Idle past → IsIdle q (cut_tokens g q s)
    index_idle ys z s past so = (matched_agrees q index_program (index_list f g ys) (cut_tokens g q s) Idle so.matched).1 refl

    -- labels of which the access knows nothing
    record Unseen (ls : List Label) : Type 0 where
      tells : (past : List Label) (m : Stand) → Tells a x past m → Tells a x (ls ++ past) m
      asked : (past : List Label) → is_asked (ls ++ past) x ≡ is_asked past x

    none_unseen : Unseen []
    none_unseen = record { tells = λ past m so. so; asked = λ past. refl }

    one_unseen : (l : Label) → same_port l.port (Taken x) ≡ false → Unseen (l ∷ [])
    one_unseen l other =
        record { tells = λ past m so. other_port_tells a x l past m other so; asked = λ past. other_port_asked x l past other }

    -- an element by which the index goes on: neither its request nor its answer
    inner_step : (y e : Element) (ys : List Element) (z : S) (s t : Tokens) (j : Term) (c : Config) (past : List Label)
        → whose f g y ≡ Index e → Stands (y ∷ ys) z s c past → Does r y s t → OfIndex e ys s t c
        → (c ≡ Idle → ⊥) → shows r y ≡ shows q e → ((acts : List Act) → labels acts ≡ shows q e → AreInner acts)
        → ((acts : List Act) → GoesOn q (cut_tokens g q s) e acts → GoesOn r s y acts) → Unseen (shows r y) → Stepped y ys s t z j c past
    inner_step y e ys z s t j Idle past index so does one runs same inner goes unseen = absurd (runs refl)
    inner_step y e ys z s t j (Running m st) past index so does one runs same inner goes unseen =
        record {
          acts = one.acts;
          stage = z;
          last = j;
          state = Running later.0 later.1;
          moves = index_moves index_program whole_program a x n one.acts m later.0 st later.1 among within moves;
          shown = one.shown ∙ sym same;
          goes = goes one.acts one.goes;
          stands =
              record {
                here = subst (At z) (sym one.stays) so.here;
                fit = fit_on y s t so.fit does;
                clean = stays_clean r y s t does so.clean;
                keeps = keeps_on y ys past so.keeps;
                follows = subst (λ (o : Whose). Follows S Next succ (own_part o ++ own_list f g ys) z) index so.follows;
                matched = subst (IsMatched q index_program (index_list f g ys) (cut_tokens g q t)) later.2 one.matched;
                index = (
                  unseen.asked past ∙ so.index.0,
                  so.index.1,
                  (so.index.2.0 ++ one.acts, moves_then index_program so.index.2.0 one.acts Idle (Running m st) (Running later.0 later.1) so.index.2.1 moves),
                );
                tells = unseen.tells past (stand z) so.tells;
              };
        }
      where
        within : AreInner one.acts
        within = inner one.acts one.shown

        later : (u : Term) × (v : Store) × (one.state ≡ Running u v)
        later = inner_stays index_program one.acts m st one.state within one.moves

        moves : Moves index_program one.acts (Running m st) (Running later.0 later.1)
        moves = subst (λ (d : Config). Moves index_program one.acts (Running m st) d) later.2 one.moves

    -- the array is told its index
    told_step : (v : ℕ) (ys : List Element) (z : S) (s t : Tokens) (j : Term) (c : Config) (past : List Label)
        → Stands (Out (ImportEnd 0 0) v ∷ ys) z s c past → Does r (Out (ImportEnd 0 0) v) s t → OfIndex (Out (ResultEnd 0) v) ys s t c
        → Stepped (Out (ImportEnd 0 0) v) ys s t z j c past
    told_step v ys z s t j Idle past so does one =
        absurd (idle_puts q (cut_tokens g q s) (cut_tokens g q t) (ResultEnd 0) v (index_idle (Out (ImportEnd 0 0) v ∷ ys) z s past so) one.does)
    told_step v ys z s t j (Running m st) past so does one =
        record {
          acts = ends.0 ++ Showing (taken x 0 v) ∷ [];
          stage = z;
          last = Lit v i;
          state = Idle;
          moves =
              subst (λ (k : Stand). Moves whole_program (ends.0 ++ Showing (taken x 0 v) ∷ []) (Running (plug (index_of a x n) m) st) (config_of a i w x n (Lit v i) k)) (sym so.index.1)
              ends.2;
          shown = labels_then ends.0 (Showing (taken x 0 v) ∷ []) ∙ (ap (λ (ls : List Label). ls ++ taken x 0 v ∷ []) ends.1 ∙ sym labelled);
          goes = tt;
          stands =
              record {
                here = subst (At z) (sym one.stays) so.here;
                fit = fit_on (Out (ImportEnd 0 0) v) s t so.fit does;
                clean = stays_clean r (Out (ImportEnd 0 0) v) s t does so.clean;
                keeps = so.keeps.1;
                follows = so.follows;
                matched = subst (IsMatched q index_program (index_list f g ys) (cut_tokens g q t)) done_now one.matched;
                index = subst (λ (ls : List Label). is_asked (ls ++ past) x ≡ false) (sym labelled) (asked_then x 0 v past refl);
                tells = subst (λ (ls : List Label). Tells a x (ls ++ past) (stand z)) (sym labelled) (index_tells a x 0 v past (stand z) refl so.tells);
              };
        }
      where
        labelled : shows r (Out (ImportEnd 0 0) v) ≡ taken x 0 v ∷ []
        labelled = ap (λ (l : Label). l ∷ []) (first_port i w x f g r p q is differ Request v 0)

        done_now : one.state ≡ Idle
        done_now = (answer_last index_program one.acts m st one.state v one.moves one.shown).6

        ends : (last : List Act) × (labels last ≡ [])
            × Moves whole_program (last ++ Showing (taken x 0 v) ∷ []) (Running (plug (index_of a x n) m) st) (Running (waiting a x n (Lit v i)) [])
        ends = index_ends_so index_program whole_program a x i w n so.index.2.0 m st v one.acts one.state among array typed so.index.2.1 one.moves one.shown

    -- the array asks for its index
    no_asks : (v : ℕ) (past ls : List Label) → KeepsPortsAfter r.imports past (shows r (In (ImportEnd 0 0) v) ++ ls)
        → (is_asked past x ≡ false) × (v ≡ 0) × IsTrue (is_open past (Taken x) 1 || is_open past (Taken x) 2)
    no_asks v past ls keeps = by_case (may refl)
      where
        may : IsFalse (is_output_at (Taken x) 1) → Allowed r.imports past (Taken x) 1 v ⊎ AllowedAtArray r.imports past (Taken x) 1 v
        may = (subst (λ (l : Label). KeepsPortsAfter r.imports past (l ∷ ls)) (first_port i w x f g r p q is differ Answer v 0) keeps).0

        by_case : Allowed r.imports past (Taken x) 1 v ⊎ AllowedAtArray r.imports past (Taken x) 1 v
            → (is_asked past x ≡ false) × (v ≡ 0) × IsTrue (is_open past (Taken x) 1 || is_open past (Taken x) 2)
        by_case (inl (fits, opened)) = absurd (subst (λ (o : Option Type'). FitsAnswer (event_of o 1) v) array fits)
        by_case (inr (k, u, known, shut, inl (event, none, up))) = (shut, none, up)
        by_case (inr (k, u, known, shut, inr (inl (event, small, up)))) = absurd (omega (arith, event))
        by_case (inr (k, u, known, shut, inr (inr (event, none, up)))) = absurd (omega (arith, event))

    asked_step : (v : ℕ) (ys : List Element) (z : S) (s t : Tokens) (j : Term) (c : Config) (past : List Label)
        → Stands (In (ImportEnd 0 0) v ∷ ys) z s c past → Does r (In (ImportEnd 0 0) v) s t → OfIndex (In (ResultEnd 0) v) ys s t c
        → Stepped (In (ImportEnd 0 0) v) ys s t z j c past
    asked_step v ys z s t j (Running m st) past so does one =
        absurd (true_is_not_false (is_asked past x) so.index.0 (no_asks v past (all_shown r ys) so.keeps).0)
    asked_step v ys z s t j Idle past so does one =
        record {
          acts = Showing (taken x 1 0) ∷ rest;
          stage = z;
          last = j;
          state = Running later.0 later.1;
          moves =
              subst (λ (k : Stand). Moves whole_program (Showing (taken x 1 0) ∷ rest) (config_of a i w x n j k) (Running (plug (index_of a x n) later.0) later.1)) (sym away) (
                Running (plug (index_of a x n) n) [],
                index_begins whole_program x i w array a n j [],
                index_moves index_program whole_program a x n rest n later.0 [] later.1 among within moves,
              );
          shown = (λ l. taken x 1 (sym none l) ∷ silent l) ∙ sym labelled;
          goes = tt;
          stands =
              record {
                here = subst (At z) (sym one.stays) so.here;
                fit = fit_on (In (ImportEnd 0 0) v) s t so.fit does;
                clean = stays_clean r (In (ImportEnd 0 0) v) s t does so.clean;
                keeps = so.keeps.1;
                follows = so.follows;
                matched = subst (IsMatched q index_program (index_list f g ys) (cut_tokens g q t)) later.2 one.matched;
                index = (
                  subst (λ (ls : List Label). is_asked (ls ++ past) x ≡ true) (sym labelled) (asked_then x 1 v past refl),
                  away,
                  (one.acts, subst (λ (d : Config). Moves index_program one.acts Idle d) later.2 one.moves),
                );
                tells = subst (λ (ls : List Label). Tells a x (ls ++ past) (stand z)) (sym labelled) (index_tells a x 1 v past (stand z) refl so.tells);
              };
        }
      where
        labelled : shows r (In (ImportEnd 0 0) v) ≡ taken x 1 v ∷ []
        labelled = ap (λ (l : Label). l ∷ []) (first_port i w x f g r p q is differ Answer v 0)

        asked : (is_asked past x ≡ false) × (v ≡ 0) × IsTrue (is_open past (Taken x) 1 || is_open past (Taken x) 2)
        asked = no_asks v past (all_shown r ys) so.keeps

        none : v ≡ 0
        none = asked.1

        away : stand z ≡ Away
        away = away_told a x past (stand z) so.tells asked.2

        first : (rest : List Act) × (labels rest ≡ []) × Moves index_program rest (Running n []) one.state
        first = asked_first index_program one.acts one.state (given 0 v) one.moves one.shown

        rest : List Act
        rest = first.0

        silent : labels rest ≡ []
        silent = first.1

        within : AreInner rest
        within = silent_inner rest silent

        later : (u : Term) × (k : Store) × (one.state ≡ Running u k)
        later = inner_stays index_program rest n [] one.state within first.2

        moves : Moves index_program rest (Running n []) (Running later.0 later.1)
        moves = subst (λ (d : Config). Moves index_program rest (Running n []) d) later.2 first.2

    -- an import of the index
    other_is : (way : Direction) (k h v : ℕ) (u : Imported) → slice_get q.imports k ≡ Some u → same_port (label_at r (ImportEnd (suc k) h) way v).port (Taken x) ≡ false
    other_is way k h v u at =
        ap (λ (l : Port). same_port l (Taken x)) (port_of i w x f g r p q is differ (suc k) ∙ ap port_if at) ∙ other_name i w x f g r p q is differ k u at

    import_label : (way : Direction) (k h v : ℕ) → label_at r (ImportEnd (suc k) h) way v ≡ label_at q (ImportEnd k h) way v
    import_label way k h v = ap (λ (l : Port). record { port = l; event = event_number way h; value = v }) (port_of i w x f g r p q is differ (suc k))

    no_given : (u : Name) → Taken u ≡ Given → ⊥
    no_given u same = cc same

    not_given : (k : ℕ) (u : Imported) → slice_get q.imports k ≡ Some u → port_if (slice_get q.imports k) ≡ Given → ⊥
    not_given k u at same = no_given u.name (sym (ap port_if at) ∙ same)

    index_step : (y e : Element) (ys : List Element) (z : S) (s t : Tokens) (j : Term) (c : Config) (past : List Label)
        → whose f g y ≡ Index e → Stands (y ∷ ys) z s c past → Does r y s t → Stepped y ys s t z j c past
    index_step (Fire k slot) e ys z s t j c past index so does = by_numbers (f.number k) (g.number k) refl index
      where
        by_numbers : (b d : Option ℕ) → g.number k ≡ d → of_numbers b d slot ≡ Index e → Stepped (Fire k slot) ys s t z j c past
        by_numbers (Some l) d number same = absurd (cc same)
        by_numbers None None number same = absurd (cc same)
        by_numbers None (Some l) number same =
            let fires : Fire l slot ≡ e = index_is (Fire l slot) e same in
            let here : whose f g (Fire k slot) ≡ Index (Fire l slot) = index ∙ ap Index (sym fires) in
            let one = of_index (Fire k slot) (Fire l slot) ys z s t c past here so does in
            inner_step (Fire k slot) (Fire l slot) ys z s t j c past here so does one
            (λ e. idle_fires q (cut_tokens g q s) (cut_tokens g q t) l slot
            (index_idle (Fire k slot ∷ ys) z s past (subst (λ (d : Config). Stands (Fire k slot ∷ ys) z s d past) e so)) one.does) refl
            (λ acts shown. silent_inner acts shown) (λ acts goes. goes_on_within g r q index_name (index_side i w x f g r p q is) k l slot s acts number goes) none_unseen
    index_step (Out (PartEnd k h) v) e ys z s t j c past index so does = absurd does.0
    index_step (Out (ImportEnd zero zero) v) e ys z s t j c past index so does =
        told_step v ys z s t j c past so does (of_index (Out (ImportEnd 0 0) v) (Out (ResultEnd 0) v) ys z s t c past refl so does)
    index_step (Out (ImportEnd zero (suc h)) v) e ys z s t j c past index so does = absurd (cc index)
    index_step (Out (ImportEnd (suc k) h) v) e ys z s t j c past index so does =
        let (d, there) = out_there r (ImportEnd (suc k) h) v s t does in
        let (u, at) = there_by i w x f g r p q is differ k h d there in
        let one = of_index (Out (ImportEnd (suc k) h) v) (Out (ImportEnd k h) v) ys z s t c past refl so does in
        inner_step (Out (ImportEnd (suc k) h) v) (Out (ImportEnd k h) v) ys z s t j c past refl so does one
        (λ e. idle_puts q (cut_tokens g q s) (cut_tokens g q t) (ImportEnd k h) v
        (index_idle (Out (ImportEnd (suc k) h) v ∷ ys) z s past (subst (λ (d : Config). Stands (Out (ImportEnd (suc k) h) v ∷ ys) z s d past) e so)) one.does)
        (ap (λ (l : Label). l ∷ []) (import_label Request k h v)) (λ acts shown. one_inner acts (label_at q (ImportEnd k h) Request v) shown (not_given k u at))
        (λ acts goes. tt) (one_unseen (label_at r (ImportEnd (suc k) h) Request v) (other_is Request k h v u at))
    index_step (Out (ResultEnd h) v) e ys z s t j c past index so does = absurd (cc index)
    index_step (In (PartEnd k h) v) e ys z s t j c past index so does = absurd does.0
    index_step (In (ImportEnd zero zero) v) e ys z s t j c past index so does =
        asked_step v ys z s t j c past so does (of_index (In (ImportEnd 0 0) v) (In (ResultEnd 0) v) ys z s t c past refl so does)
    index_step (In (ImportEnd zero (suc h)) v) e ys z s t j c past index so does = absurd (cc index)
    index_step (In (ImportEnd (suc k) h) v) e ys z s t j c past index so does =
        let (d, there) = in_there r (ImportEnd (suc k) h) v s t does in
        let (u, at) = there_by i w x f g r p q is differ k h d there in
        let one = of_index (In (ImportEnd (suc k) h) v) (In (ImportEnd k h) v) ys z s t c past refl so does in
        inner_step (In (ImportEnd (suc k) h) v) (In (ImportEnd k h) v) ys z s t j c past refl so does one
        (λ e. not_given k u at (ap (λ (l : Label). l.port)
        (idle_shows index_program one.acts one.state (label_at q (ImportEnd k h) Answer v) [] (subst (λ (d : Config). Moves index_program one.acts d one.state) e one.moves) one.shown)))
        (ap (λ (l : Label). l ∷ []) (import_label Answer k h v)) (λ acts shown. one_inner acts (label_at q (ImportEnd k h) Answer v) shown (not_given k u at))
        (λ acts goes. tt) (one_unseen (label_at r (ImportEnd (suc k) h) Answer v) (other_is Answer k h v u at))
    index_step (In (ResultEnd h) v) e ys z s t j c past index so does = absurd (cc index)

    -- nothing else can be
    no_step : (y : Element) (s t : Tokens) → whose f g y ≡ Neither → Does r y s t → ⊥
    no_step (Fire k slot) s t none does =
        let (u, there) = firing_part (slice_get r.parts k) (s.state k) slot does.1 does.3 in by_part (is.parts k u there)
      where
        by_part : ((l : ℕ) × (f.number k ≡ Some l) × (g.number k ≡ None)) ⊎ ((l : ℕ) × (g.number k ≡ Some l) × (f.number k ≡ None)) → ⊥
        by_part (inl (l, number, other)) = let clash : Own (Fire l slot) ≡ Neither = sym (ap (λ (o : Option ℕ). of_numbers o (g.number k) slot) number) ∙ none in cc clash
        by_part (inr (l, number, other)) = let clash : Index (Fire l slot) ≡ Neither = sym (λ m. of_numbers (other m) (number m) slot) ∙ none in cc clash
    no_step (Out (PartEnd k h) v) s t none does = does.0
    no_step (Out (ImportEnd zero zero) v) s t none does = cc none
    no_step (Out (ImportEnd zero (suc h)) v) s t none does = cc none
    no_step (Out (ImportEnd (suc k) h) v) s t none does = cc none
    no_step (Out (ResultEnd h) v) s t none does = cc none
    no_step (In (PartEnd k h) v) s t none does = does.0
    no_step (In (ImportEnd zero zero) v) s t none does = cc none
    no_step (In (ImportEnd zero (suc h)) v) s t none does = cc none
    no_step (In (ImportEnd (suc k) h) v) s t none does = cc none
    no_step (In (ResultEnd h) v) s t none does = cc none

    stepped : (y : Element) (ys : List Element) (z : S) (s t : Tokens) (j : Term) (c : Config) (past : List Label)
        → Stands (y ∷ ys) z s c past → Does r y s t → Stepped y ys s t z j c past
    stepped y ys z s t j c past so does = by_whose (whose f g y) refl
      where
        by_whose : (o : Whose) → whose f g y ≡ o → Stepped y ys s t z j c past
        by_whose (Own e) own = own_step y e ys z s t j c past own so does
        by_whose (Index e) index = index_step y e ys z s t j c past index so does
        by_whose Neither none = absurd (no_step y s t none does)

    pub walk : (ys : List Element) (z : S) (s : Tokens) (j : Term) (c : Config) (past : List Label) → Stands ys z s c past
        → IsMatched r whole_program ys s (whole z j c)
    walk [] z s j c past so = agrees [] z s j c past so
    walk (y ∷ ys) z s j c past so = (
      agrees (y ∷ ys) z s j c past so,
      λ t does. (let one = stepped y ys z s t j c past so does in (
        one.acts,
        whole one.stage one.last one.state,
        one.moves,
        one.shown,
        one.goes,
        walk ys one.stage t one.last one.state (shows r y ++ past) one.stands,
      )),
    )
