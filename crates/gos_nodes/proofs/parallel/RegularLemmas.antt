-- The plan of `M || N` is regular where those of M and N are.
--
-- Each element leads on in the lists of both regions, which are regular as they are so far (`After`). At an input that stands in no
-- joint a region goes on that has another end of its import.
use Rattle.std.specs.Prelude.{◌≡◌, ◌⊎◌, ℕ, Bool, true, false, All, Option, Some, None, List, [], ◌∷◌, ◌++◌}
use Rattle.std.proofs.Common.{refl, sym, ap, subst, inl, inr, ◌∙◌}
use Rattle.std.proofs.lemmas.Option.{same_Some}
use Rattle.std.proofs.lemmas.List.{append-nil}
use Rattle.gos_types.specs.declared.shakes.Role.TheVariants.{Ask}
use Rattle.gos_types.specs.Types.{IsDone}
use Rattle.gos_plan.specs.Kinds.{Contact}
use Rattle.gos_types.specs.Events.{Request, Answer}
use Rattle.gos_plan.specs.Plans.{ImportEnd, ResultEnd, Plan, contact_at}
use Rattle.gos_plan.specs.Tokens.{Tokens, Element, Fire, Out, In, places_of, way_put, Does, Runs, IsIdle}
use Rattle.gos_plan.specs.TokenBits.{LiteralFits, AllFit}
use Rattle.gos_plan.specs.Orderly.{Open, none_open, with_open, ComesInOrder, AllWelcome, OrderlyFrom}
use Rattle.gos_plan.proofs.TokenBitsLemmas.{idle_fits}
use Rattle.gos_joining.specs.webs.Cutting.{Cut, StandsIn, cut_tokens}
use Rattle.gos_joining.proofs.webs.IdleLemmas.{idle_is_cut}
use Rattle.gos_realises.specs.realises.Regular.{Pass, pass, way_in, is_open, ComesInTurn, KeepsTurns, InputsKeepTurns, OutputsKeepTurns, IsRegular}
use Rattle.gos_realises.proofs.realises.InputLemmas.{passed, InputTurns, first_turn, later_turns}
use Rattle.gos_realises.proofs.realises.IdleLemmas.{idle_welcome}
use Rattle.gos_realises.proofs.realises.RingLemmas.{after, OutputTurns}
use Rattle.gos_sharing.proofs.behind.StepLemmas.{out_joined}
use Rattle.gos_nodes.specs.windows.Nodes.{IsRestful}
use Rattle.gos_nodes.proofs.parallel.GateLemmas.{gate, Same}
use Rattle.gos_nodes.proofs.parallel.HungLemmas.{Unseen, Sees, Local, fires, puts_out, takes_in}
use Rattle.gos_nodes.proofs.windows.RestLemmas.{closed_rests}
use Rattle.gos_nodes.proofs.windows.OpenLemmas.{ground_heard}
use Rattle.gos_nodes.proofs.windows.ClosingLemmas.{Ports, ports_after}
use Rattle.gos_nodes.proofs.windows.MeetLemmas.{Meets, IsUnjoined, HasPorts, heard_meets}
use Rattle.gos_nodes.proofs.windows.TurnLemmas.{Turned, closed_turned, open_before}
use Rattle.gos_nodes.specs.parallel.Parallel.{IsParallel, OpenParallelIsRegular, OpenParallelIsRestful, ParallelIsRegular}
use Rattle.gos_nodes.proofs.parallel.StepLemmas.{Step, of_left, of_right, asked, told, starts, left_ends, right_ends, left_ends_all, right_ends_all, lost, IsSeen, step}
use Rattle.gos_nodes.proofs.parallel.LinkedLemmas.{left_runs, right_runs, Stage, when_told, Driven, Comes, past_all, left_seen, right_seen, seen_left_runs, seen_right_runs, fits_on, driven_step, driven_first}
use Rattle.gos_nodes.proofs.parallel.SharedLemmas.{side_ports, left_done, right_done, Owner, on_left, on_right, Shared, shared_first, left_pass, right_pass, whole_turned, shared_step, left_input, right_input, seen_inputs}
use Rattle.gos_nodes.proofs.parallel.HistoryLemmas.{passed_append, History, Grown, grow, grown, at_first}
use Rattle.gos_nodes.proofs.parallel.OutputLemmas.{output_turn}
use Rattle.gos_nodes.proofs.parallel.OrderLemmas.{Opened, welcome_all, Next, order_step, opened_first}
use Rattle.gos_nodes.proofs.parallel.AskedLemmas.{peel}
use Rattle.gos_nodes.proofs.parallel.QuietLemmas.{Neat, neat_step, neat_first, whole_idle}
use Rattle.gos_nodes.proofs.parallel.LooseLemmas.{loose_comes, loose_contact, loose_does, own_now, opened_left, opened_right}

pub comes_of_turn : (r : Plan) (past : List Pass) (x : Element) → InputTurns r past x → Comes r past x
comes_of_turn r past (Fire i t) turn = tt
comes_of_turn r past (Out e v) turn = tt
comes_of_turn r past (In e v) turn = turn.0

module _
    (d : ℕ) (f g : Cut) (r p q : Plan) (is : IsParallel d f g r p q) (literals : All LiteralFits r.parts) (left_ports : HasPorts r f p) (right_ports : HasPorts r g q)
    (left_regular : IsRegular p) (right_regular : IsRegular q) (first : Tokens) (rests : IsIdle r first) where
  abbrev Lefts : Tokens → Tokens
  Lefts = cut_tokens f p

  abbrev Rights : Tokens → Tokens
  Rights = cut_tokens g q

  abbrev SharedHere : List Pass → List Pass → List Pass → Type 0
  SharedHere = Shared d f g r p q is left_ports right_ports

  -- where the whole is, and its regions are
  pub record Holds (s : Tokens) (past : List Pass) (hs ks : List Element) (o lo ro : Open) : Type 0 where
    pub driven : Driven d past (passed p [] hs) (passed q [] ks) s
    shared : SharedHere past (passed p [] hs) (passed q [] ks)
    pub left : History p (Lefts first) (Lefts s) hs lo
    pub right : History q (Rights first) (Rights s) ks ro
    opened : Opened d f g r p q is literals past o lo ro s
    pub fit : AllFit r s
    ports : Ports r is.left.cut.whole_right o past

  -- which step an element is: one that the regions see by itself, or an input at an end in no joint, which is of one of them
  pub data Went (x : Element) (s w : Tokens) : Type 0 where
    is_seen : (z : Step d f g r p q x s w) → IsSeen d f g r p q x s w z → Went x s w
    lost_left :
        (k n v i : ℕ) (none : IsUnjoined r f p i n)
        → none.import ≡ k → x ≡ In (ImportEnd k n) v → Sees f p (In (ImportEnd i n) v) s w → Unseen g q s w → Same d s w → Went x s w
    lost_right :
        (k n v i : ℕ) (none : IsUnjoined r g q i n)
        → none.import ≡ k → x ≡ In (ImportEnd k n) v → Sees g q (In (ImportEnd i n) v) s w → Unseen f p s w → Same d s w → Went x s w

  abbrev pub left_of : (x : Element) (s w : Tokens) → Went x s w → List Element
  left_of x s w (is_seen z seen) = left_seen d f g r p q is literals x s w z
  left_of x s w (lost_left k n v i none import at sees unseen same) = In (ImportEnd i n) v ∷ []
  left_of x s w (lost_right k n v i none import at sees unseen same) = []

  abbrev pub right_of : (x : Element) (s w : Tokens) → Went x s w → List Element
  right_of x s w (is_seen z seen) = right_seen d f g r p q is literals x s w z
  right_of x s w (lost_left k n v i none import at sees unseen same) = []
  right_of x s w (lost_right k n v i none import at sees unseen same) = In (ImportEnd i n) v ∷ []

  pub record After (x : Element) (s w : Tokens) (past : List Pass) (hs ks : List Element) (o : Open) : Type 0 where
    pub went : Went x s w
    pub now : Open
    pub lo : Open
    pub ro : Open
    comes : ComesInOrder r x s o now
    welcome : AllWelcome r w
    pub holds : Holds w (after r x past) (hs ++ left_of x s w went) (ks ++ right_of x s w went) now lo ro
    output : OutputTurns r past x

  -- one element more
  module _ (x : Element) (s w : Tokens) (past : List Pass) (hs ks : List Element) (o lo ro : Open) (holds : Holds s past hs ks o lo ro) (does : Does r x s w) where
    abbrev lefts : List Pass
    lefts = passed p [] hs

    abbrev rights : List Pass
    rights = passed q [] ks

    finish : (went : Went x s w)
        → (left : Grown p (Lefts first) (Lefts s) (Lefts w) hs (left_of x s w went) lo) (right : Grown q (Rights first) (Rights s) (Rights w) ks (right_of x s w went) ro)
        → Driven d (after r x past) (past_all p (left_of x s w went) lefts) (past_all q (right_of x s w went) rights) w
        → SharedHere (after r x past) (past_all p (left_of x s w went) lefts) (past_all q (right_of x s w went) rights)
        → (now left_now right_now : Open) → ComesInOrder r x s o now → Opened d f g r p q is literals (after r x past) now left_now right_now w
        → left.now ≡ left_now → right.now ≡ right_now → AllWelcome p (Lefts w) → AllWelcome q (Rights w) → (Turned r (after r x past) → OutputTurns r past x)
        → After x s w past hs ks o
    finish went left right driven shared now left_now right_now comes opened left_is right_is left_welcome right_welcome output =
        record {
          went = went;
          now = now;
          lo = left_now;
          ro = right_now;
          comes = comes;
          welcome =
              welcome_all d f g r p q is literals w (after r x past) now left_now right_now (is_open (after r x past) (ResultEnd 0)) driven.stage opened left_welcome right_welcome;
          holds =
              record {
                driven = driven_on;
                shared = shared_on;
                left = grown p (Lefts first) (Lefts s) (Lefts w) hs ys lo left_now left left_is left_welcome;
                right = grown q (Rights first) (Rights s) (Rights w) ks zs ro right_now right right_is right_welcome;
                opened = opened;
                fit = fits_on d f g r p q is literals x s w holds.fit does;
                ports = ports_after r is.left.cut.whole_right x o now s w past does comes holds.ports;
              };
          output =
              output
              (whole_turned d f g r p q is left_ports right_ports (after r x past) (passed p [] (hs ++ ys)) (passed q [] (ks ++ zs)) w driven_on shared_on left.turned right.turned);
        }
      where
        ys : List Element
        ys = left_of x s w went

        zs : List Element
        zs = right_of x s w went

        left_past : past_all p ys lefts ≡ passed p [] (hs ++ ys)
        left_past = sym (passed_append p [] hs ys)

        right_past : past_all q zs rights ≡ passed q [] (ks ++ zs)
        right_past = sym (passed_append q [] ks zs)

        driven_on : Driven d (after r x past) (passed p [] (hs ++ ys)) (passed q [] (ks ++ zs)) w
        driven_on =
            subst (λ (l : List Pass). Driven d (after r x past) l (passed q [] (ks ++ zs)) w) left_past
            (subst (λ (l : List Pass). Driven d (after r x past) (past_all p ys lefts) l w) right_past driven)

        shared_on : SharedHere (after r x past) (passed p [] (hs ++ ys)) (passed q [] (ks ++ zs))
        shared_on =
            subst (λ (l : List Pass). SharedHere (after r x past) l (passed q [] (ks ++ zs))) left_past
            (subst (λ (l : List Pass). SharedHere (after r x past) (past_all p ys lefts) l) right_past shared)

    left_idle : IsIdle p (Lefts first)
    left_idle = idle_is_cut f r p first rests

    right_idle : IsIdle q (Rights first)
    right_idle = idle_is_cut g r q first rests

    seen_step : (z : Step d f g r p q x s w) → IsSeen d f g r p q x s w z → InputTurns r past x → After x s w past hs ks o
    seen_step z seen turn =
        finish (is_seen z seen) left right (driven_step d f g r p q is literals x s w z past lefts rights holds.driven comes_in)
        (shared_step d f g r p q is left_ports right_ports literals x s w z seen past lefts rights holds.shared) one.open_now one.left_now one.right_now one.comes one.opened
        one.left_rest.0 one.right_rest.0 one.left_welcome one.right_welcome
        (λ turned.
        output_turn d f g r p q is literals left_ports right_ports x s w z past lefts rights [] [] holds.driven holds.shared
        (subst (λ (l : List Element). OutputsKeepTurns p lefts l) (sym (append-nil ys)) left.outputs)
        (subst (λ (l : List Element). OutputsKeepTurns q rights l) (sym (append-nil zs)) right.outputs) turned)
      where
        ys : List Element
        ys = left_seen d f g r p q is literals x s w z

        zs : List Element
        zs = right_seen d f g r p q is literals x s w z

        comes_in : Comes r past x
        comes_in = comes_of_turn r past x turn

        inputs : InputsKeepTurns p lefts ys × InputsKeepTurns q rights zs
        inputs =
            seen_inputs d f g r p q is left_ports right_ports literals x s w z past lefts rights holds.driven holds.shared holds.left.turned holds.right.turned turn

        left : Grown p (Lefts first) (Lefts s) (Lefts w) hs ys lo
        left =
            grow p left_regular (Lefts first) (Lefts s) (Lefts w) hs ys lo left_idle holds.left
            (subst (λ (l : List Element). Runs p l (Lefts s) (Lefts w)) (append-nil ys) (seen_left_runs d f g r p q is literals x s w z [] (Lefts w) refl)) inputs.0

        right : Grown q (Rights first) (Rights s) (Rights w) ks zs ro
        right =
            grow q right_regular (Rights first) (Rights s) (Rights w) ks zs ro right_idle holds.right
            (subst (λ (l : List Element). Runs q l (Rights s) (Rights w)) (append-nil zs) (seen_right_runs d f g r p q is literals x s w z [] (Rights w) refl)) inputs.1

        one : Next d f g r p q is literals x s w past o [] [] left.now (Lefts w) right.now (Rights w)
        one =
            order_step d f g r p q is literals past lefts rights o lo ro left.now right.now (Lefts w) (Rights w) [] [] x s w z seen does holds.driven comes_in holds.opened
            holds.left.welcome holds.right.welcome
            (subst (λ (l : List Element). OrderlyFrom p l lo (Lefts s) left.now (Lefts w)) (sym (append-nil ys)) left.piece)
            (subst (λ (l : List Element). OrderlyFrom q l ro (Rights s) right.now (Rights w)) (sym (append-nil zs)) right.piece)

  -- an input at an end that stands in no joint
  module _
      (k n v : ℕ) (s w : Tokens) (past : List Pass) (hs ks : List Element) (o lo ro : Open) (holds : Holds s past hs ks o lo ro) (does : Does r (In (ImportEnd k n) v) s w)
      (turn : KeepsTurns r past (pass (ImportEnd k n) (way_in (contact_at r (ImportEnd k n))))) (c : Contact) (there : contact_at r (ImportEnd k n) ≡ Some c)
      (not_left : f.inner (ImportEnd k n) ≡ None) (not_right : g.inner (ImportEnd k n) ≡ None) (left_same : Unseen f p s w) (right_same : Unseen g q s w) (same : Same d s w) where
    abbrev whole_passed : List Pass
    whole_passed = after r (In (ImportEnd k n) v) past

    abbrev opened_now : Open
    opened_now = with_open (ImportEnd k n) true o

    shut : c.role ≡ Ask → o (ImportEnd k n) ≡ false
    shut asks = by_test (o (ImportEnd k n)) refl
      where
        by_test : (b : Bool) → o (ImportEnd k n) ≡ b → b ≡ false
        by_test false t = refl
        by_test true up =
            let (own, held) = holds.ports (ImportEnd k n) tt up in
            sym held ∙ subst (ComesInTurn past (ImportEnd k n)) (ap way_in there ∙ ap way_put asks) turn.0

    driven : (ls ms : List Pass) → is_open ls (ResultEnd 0) ≡ is_open (passed p [] hs) (ResultEnd 0) → is_open ms (ResultEnd 0) ≡ is_open (passed q [] ks) (ResultEnd 0)
        → Driven d whole_passed ls ms w
    driven ls ms left_so right_so =
        let now = driven_step d f g r p q is literals (In (ImportEnd k n) v) s w (lost k n v s w c there not_left not_right left_same right_same same) past (passed p [] hs) (passed q [] ks)
        holds.driven turn.0 in
        record { left_result = left_so ∙ now.left_result; right_result = right_so ∙ now.right_result; stage = now.stage }

    input_left : (i : ℕ) → (none : IsUnjoined r f p i n) → none.import ≡ k → After (In (ImportEnd k n) v) s w past hs ks o
    input_left i none import =
        finish (In (ImportEnd k n) v) s w past hs ks o lo ro holds does (lost_left k n v i none import refl own_does right_same same) left right
        (driven (pass (ImportEnd i n) (way_in (contact_at p (ImportEnd i n))) ∷ passed p [] hs) (passed q [] ks) refl refl) shared opened_now (with_open (ImportEnd i n) true lo) ro
        comes (opened_left d f g r p q is literals k n v s w past o lo ro holds.opened same not_left not_right does comes i none.own_none) own_is right.piece.0
        one.2 (subst (AllWelcome q) (sym right_same) holds.right.welcome) (λ turned. tt)
      where
        ys : List Element
        ys = In (ImportEnd i n) v ∷ []

        leads : f.outer (ImportEnd i n) ≡ ImportEnd k n
        leads = none.outer ∙ ap (λ (m : ℕ). ImportEnd m n) import

        at_import : contact_at r (ImportEnd k n) ≡ Some none.contact
        at_import = ap (λ (m : ℕ). contact_at r (ImportEnd m n)) (sym import) ∙ loose_contact r f p i n none

        asks : c.role ≡ Ask
        asks = ap (λ (x : Contact). x.role) (same_Some c none.contact (sym there ∙ at_import)) ∙ none.asks

        nowhere : places_of r (ImportEnd k n) ≡ None
        nowhere = ap (λ (m : ℕ). places_of r (ImportEnd m n)) (sym import) ∙ none.none

        own_does : Sees f p (In (ImportEnd i n) v) s w
        own_does = loose_does r f p i n none v s w (subst (λ (m : ℕ). Does r (In (ImportEnd m n) v) s w) (sym import) does) left_same

        left : Grown p (Lefts first) (Lefts s) (Lefts w) hs ys lo
        left =
            grow p left_regular (Lefts first) (Lefts s) (Lefts w) hs ys lo (idle_is_cut f r p first rests) holds.left (Lefts w, own_does, refl)
            (left_input d f g r p q is left_ports right_ports literals past (passed p [] hs) (passed q [] ks) holds.shared holds.left.turned i n k (inr none) leads turn, tt)

        right : Grown q (Rights first) (Rights s) (Rights w) ks [] ro
        right = grow q right_regular (Rights first) (Rights s) (Rights w) ks [] ro (idle_is_cut g r q first rests) holds.right right_same tt

        comes : ComesInOrder r (In (ImportEnd k n) v) s o opened_now
        comes = loose_comes r k n c there asks nowhere v s o (shut asks)

        shared : SharedHere whole_passed (past_all p ys (passed p [] hs)) (passed q [] ks)
        shared =
            subst (λ (x : Option Contact). SharedHere (pass (ImportEnd k n) (way_in (contact_at r (ImportEnd k n))) ∷ past) (pass (ImportEnd i n) (way_in x) ∷ passed p [] hs) (passed q [] ks))
            (at_import ∙ sym none.own)
            (left_pass d f g r p q is left_ports right_ports past (passed p [] hs) (passed q [] ks) holds.shared i n k (inr none) leads (way_in (contact_at r (ImportEnd k n))))

        one : (next : Open) × ComesInOrder p (In (ImportEnd i n) v) (Lefts s) lo next × AllWelcome p (Lefts w) × OrderlyFrom p [] next (Lefts w) left.now (Lefts w)
        one = peel p (In (ImportEnd i n) v) [] lo left.now (Lefts s) (Lefts w) (Lefts w) own_does left.piece

        own_is : left.now ≡ with_open (ImportEnd i n) true lo
        own_is = one.3.0 ∙ own_now r f p i n none v (Lefts s) lo one.0 one.1

    input_right : (i : ℕ) → (none : IsUnjoined r g q i n) → none.import ≡ k → After (In (ImportEnd k n) v) s w past hs ks o
    input_right i none import =
        finish (In (ImportEnd k n) v) s w past hs ks o lo ro holds does (lost_right k n v i none import refl own_does left_same same) left right
        (driven (passed p [] hs) (pass (ImportEnd i n) (way_in (contact_at q (ImportEnd i n))) ∷ passed q [] ks) refl refl) shared opened_now lo (with_open (ImportEnd i n) true ro)
        comes (opened_right d f g r p q is literals k n v s w past o lo ro holds.opened same not_left not_right does comes i none.own_none) left.piece.0 own_is
        (subst (AllWelcome p) (sym left_same) holds.left.welcome) one.2 (λ turned. tt)
      where
        ys : List Element
        ys = In (ImportEnd i n) v ∷ []

        leads : g.outer (ImportEnd i n) ≡ ImportEnd k n
        leads = none.outer ∙ ap (λ (m : ℕ). ImportEnd m n) import

        at_import : contact_at r (ImportEnd k n) ≡ Some none.contact
        at_import = ap (λ (m : ℕ). contact_at r (ImportEnd m n)) (sym import) ∙ loose_contact r g q i n none

        asks : c.role ≡ Ask
        asks = ap (λ (x : Contact). x.role) (same_Some c none.contact (sym there ∙ at_import)) ∙ none.asks

        nowhere : places_of r (ImportEnd k n) ≡ None
        nowhere = ap (λ (m : ℕ). places_of r (ImportEnd m n)) (sym import) ∙ none.none

        own_does : Sees g q (In (ImportEnd i n) v) s w
        own_does = loose_does r g q i n none v s w (subst (λ (m : ℕ). Does r (In (ImportEnd m n) v) s w) (sym import) does) right_same

        right : Grown q (Rights first) (Rights s) (Rights w) ks ys ro
        right =
            grow q right_regular (Rights first) (Rights s) (Rights w) ks ys ro (idle_is_cut g r q first rests) holds.right (Rights w, own_does, refl)
            (right_input d f g r p q is left_ports right_ports literals past (passed p [] hs) (passed q [] ks) holds.shared holds.right.turned i n k (inr none) leads turn, tt)

        left : Grown p (Lefts first) (Lefts s) (Lefts w) hs [] lo
        left = grow p left_regular (Lefts first) (Lefts s) (Lefts w) hs [] lo (idle_is_cut f r p first rests) holds.left left_same tt

        comes : ComesInOrder r (In (ImportEnd k n) v) s o opened_now
        comes = loose_comes r k n c there asks nowhere v s o (shut asks)

        shared : SharedHere whole_passed (passed p [] hs) (past_all q ys (passed q [] ks))
        shared =
            subst (λ (x : Option Contact). SharedHere (pass (ImportEnd k n) (way_in (contact_at r (ImportEnd k n))) ∷ past) (passed p [] hs) (pass (ImportEnd i n) (way_in x) ∷ passed q [] ks))
            (at_import ∙ sym none.own)
            (right_pass d f g r p q is left_ports right_ports past (passed p [] hs) (passed q [] ks) holds.shared i n k (inr none) leads (way_in (contact_at r (ImportEnd k n))))

        one : (next : Open) × ComesInOrder q (In (ImportEnd i n) v) (Rights s) ro next × AllWelcome q (Rights w) × OrderlyFrom q [] next (Rights w) right.now (Rights w)
        one = peel q (In (ImportEnd i n) v) [] ro right.now (Rights s) (Rights w) (Rights w) own_does right.piece

        own_is : right.now ≡ with_open (ImportEnd i n) true ro
        own_is = one.3.0 ∙ own_now r g q i n none v (Rights s) ro one.0 one.1

    -- which region it is
    standing_left : (i : ℕ) → StandsIn p (ImportEnd i n) → f.outer (ImportEnd i n) ≡ ImportEnd k n → ⊥
    standing_left i stands leads =
        let clash : None ≡ Some (ImportEnd i n) = sym not_left ∙ (ap f.inner (sym leads) ∙ (is.left.cut.ports (ImportEnd i n) tt stands).1) in cc clash

    standing_right : (i : ℕ) → StandsIn q (ImportEnd i n) → g.outer (ImportEnd i n) ≡ ImportEnd k n → ⊥
    standing_right i stands leads =
        let clash : None ≡ Some (ImportEnd i n) = sym not_right ∙ (ap g.inner (sym leads) ∙ (is.right.cut.ports (ImportEnd i n) tt stands).1) in cc clash

    met_left : (i : ℕ) → Meets r f p i n → f.outer (ImportEnd i n) ≡ ImportEnd k n → After (In (ImportEnd k n) v) s w past hs ks o
    met_left i (inl joined) leads = absurd (standing_left i joined.stands leads)
    met_left i (inr none) leads =
        let both : ImportEnd none.import n ≡ ImportEnd k n = sym none.outer ∙ leads in
        let import : none.import ≡ k = cc both in input_left i none import

    met_right : (i : ℕ) → Meets r g q i n → g.outer (ImportEnd i n) ≡ ImportEnd k n → After (In (ImportEnd k n) v) s w past hs ks o
    met_right i (inl joined) leads = absurd (standing_right i joined.stands leads)
    met_right i (inr none) leads =
        let both : ImportEnd none.import n ≡ ImportEnd k n = sym none.outer ∙ leads in
        let import : none.import ≡ k = cc both in input_right i none import

    by_owner : (m : ℕ) → (m ≡ n) ⊎ (c.role ≡ Ask) → Owner d f g r p q is left_ports right_ports k m → After (In (ImportEnd k n) v) s w past hs ks o
    by_owner m (inl same) (on_left i meets leads) =
        met_left i (subst (λ (y : ℕ). Meets r f p i y) same meets) (subst (λ (y : ℕ). f.outer (ImportEnd i y) ≡ ImportEnd k y) same leads)
    by_owner m (inr asks) (on_left i meets leads) = let (here, at) = heard_meets r f p left_ports i m k n c meets leads there asks in met_left i here at
    by_owner m (inl same) (on_right i meets leads) =
        met_right i (subst (λ (y : ℕ). Meets r g q i y) same meets) (subst (λ (y : ℕ). g.outer (ImportEnd i y) ≡ ImportEnd k y) same leads)
    by_owner m (inr asks) (on_right i meets leads) = let (here, at) = heard_meets r g q right_ports i m k n c meets leads there asks in met_right i here at

    lost_step : After (In (ImportEnd k n) v) s w past hs ks o
    lost_step =
        let (m, up, which) = open_before r past k n c there turn in by_owner m which (holds.shared.only k m up)

  pub next : (x : Element) (s w : Tokens) (past : List Pass) (hs ks : List Element) (o lo ro : Open) → Holds s past hs ks o lo ro → Does r x s w → InputTurns r past x
      → Step d f g r p q x s w → After x s w past hs ks o
  next x s w past hs ks o lo ro holds does turn (lost k n v s' w' c there not_left not_right left right same) =
      lost_step k n v s' w' past hs ks o lo ro holds does turn c there not_left not_right left right same
  next x s w past hs ks o lo ro holds does turn (of_left x' y s' w' local sees unseen same) =
      seen_step x' s' w' past hs ks o lo ro holds does (of_left x' y s' w' local sees unseen same) tt turn
  next x s w past hs ks o lo ro holds does turn (of_right x' y s' w' local sees unseen same) =
      seen_step x' s' w' past hs ks o lo ro holds does (of_right x' y s' w' local sees unseen same) tt turn
  next x s w past hs ks o lo ro holds does turn (asked v s' w' small left right state ask ans) =
      seen_step x s' w' past hs ks o lo ro holds does (asked v s' w' small left right state ask ans) tt turn
  next x s w past hs ks o lo ro holds does turn (told v s' w' left right state ans none ask) =
      seen_step x s' w' past hs ks o lo ro holds does (told v s' w' left right state ans none ask) tt turn
  next x s w past hs ks o lo ro holds does turn (starts v s' w' left right rest ask both none ans) =
      seen_step x s' w' past hs ks o lo ro holds does (starts v s' w' left right rest ask both none ans) tt turn
  next x s w past hs ks o lo ro holds does turn (left_ends v s' w' left right both further gates) =
      seen_step x s' w' past hs ks o lo ro holds does (left_ends v s' w' left right both further gates) tt turn
  next x s w past hs ks o lo ro holds does turn (right_ends v s' w' right left both further gates) =
      seen_step x s' w' past hs ks o lo ro holds does (right_ends v s' w' right left both further gates) tt turn
  next x s w past hs ks o lo ro holds does turn (left_ends_all v s' w' left right phase rest ask ans) =
      seen_step x s' w' past hs ks o lo ro holds does (left_ends_all v s' w' left right phase rest ask ans) tt turn
  next x s w past hs ks o lo ro holds does turn (right_ends_all v s' w' right left phase rest ask ans) =
      seen_step x s' w' past hs ks o lo ro holds does (right_ends_all v s' w' right left phase rest ask ans) tt turn

  along : (xs : List Element) (s t : Tokens) (past : List Pass) (hs ks : List Element) (o lo ro : Open) → Holds s past hs ks o lo ro → Runs r xs s t → InputsKeepTurns r past xs
      → ((u : Open) × (w : Tokens) × OrderlyFrom r xs o s u w) × OutputsKeepTurns r past xs
  along [] s t past hs ks o lo ro holds runs turns = ((o, s, (refl, refl)), tt)
  along (x ∷ xs) s t past hs ks o lo ro holds (w, does, runs) turns =
      let one =
      next x s w past hs ks o lo ro holds does (first_turn r past x xs turns) (step d f g r p q is literals x s w holds.fit does) in
      let ((u, z, rest), outputs) =
      along xs w t (after r x past) (hs ++ left_of x s w one.went) (ks ++ right_of x s w one.went) one.now one.lo one.ro one.holds runs (later_turns r past x xs turns) in
      ((u, z, (one.now, w, does, one.comes, one.welcome, rest)), out_joined r past x xs one.output outputs)

  pub holds_first : Holds first [] [] [] none_open none_open none_open
  holds_first =
      record {
        driven = driven_first d f g r p q is literals first rests;
        shared = shared_first d f g r p q is left_ports right_ports;
        left =
            at_first p (Lefts first) (closed_turned p (left_done d f g r p q is left_ports right_ports) [] (λ k h. refl))
            (idle_welcome p (Lefts first) (idle_is_cut f r p first rests));
        right =
            at_first q (Rights first) (closed_turned q (right_done d f g r p q is left_ports right_ports) [] (λ k h. refl))
            (idle_welcome q (Rights first) (idle_is_cut g r q first rests));
        opened = opened_first d f g r p q is literals first rests;
        fit = idle_fits r first rests;
        ports = λ e port up. absurd (cc up);
      }

  -- where the whole is before the last element of a list
  record Reached (x : Element) (t : Tokens) : Type 0 where
    s : Tokens
    past : List Pass
    hs : List Element
    ks : List Element
    o : Open
    lo : Open
    ro : Open
    holds : Holds s past hs ks o lo ro
    neat : Neat r s
    does : Does r x s t

  reach : (xs : List Element) (x : Element) (s t : Tokens) (past : List Pass) (hs ks : List Element) (o lo ro : Open) → Holds s past hs ks o lo ro → Neat r s
      → Runs r (xs ++ x ∷ []) s t → InputsKeepTurns r past (xs ++ x ∷ []) → Reached x t
  reach [] x s t past hs ks o lo ro holds neat (w, does, is) turns =
      record {
        s = s;
        past = past;
        hs = hs;
        ks = ks;
        o = o;
        lo = lo;
        ro = ro;
        holds = holds;
        neat = neat;
        does = subst (λ (y : Tokens). Does r x s y) (sym is) does;
      }
  reach (y ∷ ys) x s t past hs ks o lo ro holds neat (w, does, runs) turns =
      let one =
      next y s w past hs ks o lo ro holds does (first_turn r past y (ys ++ x ∷ []) turns) (step d f g r p q is literals y s w holds.fit does) in
      reach ys x w t (after r y past) (hs ++ left_of y s w one.went) (ks ++ right_of y s w one.went) one.now one.lo one.ro one.holds (neat_step r y s w does neat) runs (later_turns r past y (ys ++ x ∷ []) turns)

  -- the answer leads to rest
  local_apart : (c : Cut) (a : Plan) (x y : Element) (v : ℕ) → Local c r a x y → x ≡ Out (ResultEnd 0) v → ⊥
  local_apart c a x y v (fires i j k number) is_out = cc is_out
  local_apart c a x y v (puts_out i j k n stands leads slices) is_out = cc is_out
  local_apart c a x y v (takes_in i j k n stands leads slices) is_out = cc is_out

  last_of : (x : Element) (s w : Tokens) → Step d f g r p q x s w → (v : ℕ) (past : List Pass) → x ≡ Out (ResultEnd 0) v
      → Stage (is_open past (ResultEnd 0)) (s.state d).phase (gate s Request) (gate s Answer) → (left_runs (s.state d).phase ≡ false → IsIdle p (Lefts s))
      → (right_runs (s.state d).phase ≡ false → IsIdle q (Rights s)) → Neat r w → IsIdle r w
  last_of x s w (told n s' w' left right state ans none ask) v past is_out stage left_idle right_idle neat =
      let (opened, rest, empty, value) = when_told (is_open past (ResultEnd 0)) (s'.state d).phase (gate s' Request) (gate s' Answer) n stage ans in
      whole_idle d f g r p q is w' neat (subst (IsIdle p) (sym left) (left_idle (ap left_runs rest))) (subst (IsIdle q) (sym right) (right_idle (ap right_runs rest)))
      (ap (λ c. c.phase) state ∙ rest) (ask ∙ empty) none
  last_of x s w (of_left x' y s' w' local sees unseen same) v past is_out stage left_idle right_idle neat = absurd (local_apart f p x' y v local is_out)
  last_of x s w (of_right x' y s' w' local sees unseen same) v past is_out stage left_idle right_idle neat = absurd (local_apart g q x' y v local is_out)
  last_of x s w (asked n s' w' small left right state ask ans) v past is_out stage left_idle right_idle neat = absurd (cc is_out)
  last_of x s w (starts n s' w' left right rest ask both none ans) v past is_out stage left_idle right_idle neat = absurd (cc is_out)
  last_of x s w (left_ends n s' w' left right both further gates) v past is_out stage left_idle right_idle neat = absurd (cc is_out)
  last_of x s w (right_ends n s' w' left right both further gates) v past is_out stage left_idle right_idle neat = absurd (cc is_out)
  last_of x s w (left_ends_all n s' w' left right phase rest ask ans) v past is_out stage left_idle right_idle neat = absurd (cc is_out)
  last_of x s w (right_ends_all n s' w' left right phase rest ask ans) v past is_out stage left_idle right_idle neat = absurd (cc is_out)
  last_of x s w (lost j k n s' w' c there not_left not_right left right same) v past is_out stage left_idle right_idle neat = absurd (cc is_out)

  module _ (left_restful : IsRestful p) (right_restful : IsRestful q) (v : ℕ) (t : Tokens) (there : Reached (Out (ResultEnd 0) v) t) where
    left_rests : left_runs (there.s.state d).phase ≡ false → IsIdle p (Lefts there.s)
    left_rests shut =
        closed_rests p there.hs (Lefts first) (Lefts there.s) (left_done d f g r p q is left_ports right_ports) left_regular left_restful (idle_is_cut f r p first rests)
        there.holds.left.runs there.holds.left.inputs (there.holds.driven.left_result ∙ shut)

    right_rests : right_runs (there.s.state d).phase ≡ false → IsIdle q (Rights there.s)
    right_rests shut =
        closed_rests q there.ks (Rights first) (Rights there.s) (right_done d f g r p q is left_ports right_ports) right_regular right_restful (idle_is_cut g r q first rests)
        there.holds.right.runs there.holds.right.inputs (there.holds.driven.right_result ∙ shut)

    last_rests : IsIdle r t
    last_rests =
        last_of (Out (ResultEnd 0) v) there.s t (step d f g r p q is literals (Out (ResultEnd 0) v) there.s t there.holds.fit there.does) v there.past refl
        there.holds.driven.stage left_rests right_rests (neat_step r (Out (ResultEnd 0) v) there.s t there.does there.neat)

pub open_parallel_is_regular : OpenParallelIsRegular
open_parallel_is_regular d f g r p q is left_heard right_heard literals names left_names left_regular right_names right_regular s t xs rests runs turns =
    along d f g r p q is literals (side_ports d 0 f r p is.left left_heard names left_names) (side_ports d 1 g r q is.right right_heard names right_names)
    left_regular right_regular s rests xs s t [] [] [] none_open none_open none_open
    (holds_first d f g r p q is literals (side_ports d 0 f r p is.left left_heard names left_names) (side_ports d 1 g r q is.right right_heard names right_names)
    left_regular right_regular s rests) runs turns

pub open_parallel_is_restful : OpenParallelIsRestful
open_parallel_is_restful d f g r p q is left_heard right_heard literals names left_names left_regular left_restful right_names right_regular right_restful s t xs v rests runs turns =
    let left_ports = side_ports d 0 f r p is.left left_heard names left_names in
    let right_ports = side_ports d 1 g r q is.right right_heard names right_names in
    let there =
    reach d f g r p q is literals left_ports right_ports left_regular right_regular s rests xs (Out (ResultEnd 0) v) s t [] [] [] none_open none_open none_open
    (holds_first d f g r p q is literals left_ports right_ports left_regular right_regular s rests) (neat_first r s rests) runs turns in
    last_rests d f g r p q is literals left_ports right_ports left_regular right_regular s rests left_restful right_restful v t there

pub parallel_is_regular : ParallelIsRegular
parallel_is_regular d f g r p q is literals ground differ left_ground left_differ left_regular right_ground right_differ right_regular =
    open_parallel_is_regular d f g r p q is (ground_heard f r p left_ground (subst IsDone (sym is.left.outcome) tt))
    (ground_heard g r q right_ground (subst IsDone (sym is.right.outcome) tt)) literals differ left_differ left_regular right_differ right_regular
