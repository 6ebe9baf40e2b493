-- Renumbering the parts and the imports of a plan changes nothing that is seen: orderly lists are orderly, what passes ports
-- keeps turns, and lists are matched.
use Rattle.std.specs.Prelude.{◌≡◌, ℕ, Bool, true, false, List, [], ◌∷◌, Option, Some, None, slice_get, if◌then◌else◌}
use Rattle.std.proofs.Common.{refl, sym, ◌∙◌, ap, subst}
use Rattle.gos_types.specs.Events.{Direction, Request, Answer}
use Rattle.gos_model.specs.Terms.{Term}
use Rattle.gos_model.specs.Moves.{Config, Idle, Act}
use Rattle.gos_plan.specs.Kinds.{Contact}
use Rattle.gos_plan.specs.Firing.{Slot, Req, Ans, Token, Row}
use Rattle.gos_plan.specs.Plans.{End, PartEnd, ImportEnd, ResultEnd, Plan, contact_at}
use Rattle.gos_plan.specs.Tokens.{Tokens, Element, Fire, Out, In, places_of, token_at, with_token, with_state, end_of, way_of, way_taken, way_put, firing_of, IsIdle}
use Rattle.gos_plan.specs.Orderly.{Open, none_open, named_by, handshake_at, with_open, after_taken, after_put, after_puts, ComesWell, AllComeWell, ComesInOrder, AllWelcome, OrderlyFrom, IsOrderly}
use Rattle.gos_realises.specs.realises.Regular.{Pass, pass, way_in, way_out, KeepsTurns, InputsKeepTurns, OutputsKeepTurns, IsRegular}
use Rattle.gos_realises.specs.realises.Matched.{port_if, event_number, shows, GoesOn, Agrees, IsMatched, program_of, RealisesInTurn}
use Rattle.gos_joining.specs.webs.Renumbering.{Renumber, IsOneToOne, IsRenumbered, back, moved_end, moved, moved_list, moved_tokens}
use Rattle.gos_joining.proofs.webs.IdleLemmas.{renumbered_back}
use Rattle.gos_joining.proofs.webs.MovedLemmas.{moved_if, back_and_there, same_moved, place_moved, token_moved, token_filled, state_filled, contact_moved, tokens_round, does_is_moved, runs_is_moved, quiet_is_moved}
use Rattle.gos_joining.proofs.renumbered.ImportLemmas.{SameImports, imports_back, moves_same, stalled_same, AreReordered}
use Rattle.gos_joining.proofs.renumbered.TurnLemmas.{moved_pass, moved_passes, turns_forth, turns_back}

abbrev pub moved_open : Renumber → Open → Open
moved_open f o = λ e. o (moved_end (back f) e)

element_round : (f : Renumber) → IsOneToOne f → (x : Element) → moved (back f) (moved f x) ≡ x
element_round f one (Fire i t) = ap (λ j. Fire j t) (one.parts i)
element_round f one (Out e v) = ap (λ d. Out d v) (back_and_there f one e)
element_round f one (In e v) = ap (λ d. In d v) (back_and_there f one e)

pub list_round : (f : Renumber) → IsOneToOne f → (xs : List Element) → moved_list (back f) (moved_list f xs) ≡ xs
list_round f one [] = refl
list_round f one (x ∷ xs) = λ i. element_round f one x i ∷ list_round f one xs i

pub idle_moved : (f : Renumber) (p q : Plan) (s : Tokens) → IsIdle p s → IsIdle q (moved_tokens f s)
idle_moved f p q s idle = ((λ way e. idle.0 way (moved_end (back f) e)), λ i. idle.1 (f.part_back i))

module _ (f : Renumber) (p q : Plan) (is : IsRenumbered f p q) where
  firing_moved : (i : ℕ) (t : Slot) (s : Tokens)
      → firing_of (slice_get q.parts (f.part i)) (s.state (f.part_back (f.part i))) t ≡ firing_of (slice_get p.parts i) (s.state i) t
  firing_moved i t s = λ k. firing_of (is.parts i k) (s.state (is.one_to_one.parts i k)) t

  taken_moved : (i : ℕ) (x : Row) (v : ℕ) (s : Tokens)
      → with_state (f.part i) (x.next v) (with_token q (end_of (f.part i) x.takes) (way_of x.takes) None (moved_tokens f s))
      ≡ moved_tokens f (with_state i (x.next v) (with_token p (end_of i x.takes) (way_of x.takes) None s))
  taken_moved i x v s =
      ap (with_state (f.part i) (x.next v)) (token_filled f p q is (end_of i x.takes) (way_of x.takes) None s)
      ∙ state_filled f is.one_to_one i (x.next v) (with_token p (end_of i x.takes) (way_of x.takes) None s)

  -- open handshakes
  named_moved : (o : Option End) (e : End) → named_by (moved_if f o) (moved_end f e) ≡ moved_end f (named_by o e)
  named_moved None e = refl
  named_moved (Some d) e = refl

  name_moved : (e : End) → handshake_at q (moved_end f e) ≡ moved_end f (handshake_at p e)
  name_moved e = ap (λ o. named_by o (moved_end f e)) (place_moved f p q is e) ∙ named_moved (places_of p e) e

  with_open_moved : (e : End) (b : Bool) (o : Open) → moved_open f (with_open e b o) ≡ with_open (moved_end f e) b (moved_open f o)
  with_open_moved e b o = λ k d. if sym (same_moved f is.one_to_one d e) k then b else o (moved_end (back f) d)

  after_taken_moved : (e : End) (way : Direction) (o : Open)
      → moved_open f (after_taken p e way o) ≡ after_taken q (moved_end f e) way (moved_open f o)
  after_taken_moved e Request o = refl
  after_taken_moved e Answer o =
      with_open_moved (handshake_at p e) false o ∙ ap (λ d. with_open d false (moved_open f o)) (sym (name_moved e))

  after_put_moved : (e : End) (way : Direction) (o : Open)
      → moved_open f (after_put p e way o) ≡ after_put q (moved_end f e) way (moved_open f o)
  after_put_moved e Request o =
      with_open_moved (handshake_at p e) true o ∙ ap (λ d. with_open d true (moved_open f o)) (sym (name_moved e))
  after_put_moved e Answer o = refl

  after_puts_moved : (i : ℕ) (ts : List Token) (o : Open)
      → moved_open f (after_puts p i ts o) ≡ after_puts q (f.part i) ts (moved_open f o)
  after_puts_moved i [] o = refl
  after_puts_moved i (t ∷ ts) o =
      after_puts_moved i ts (after_put p (end_of i t.slot) (way_of t.slot) o)
      ∙ ap (after_puts q (f.part i) ts) (after_put_moved (end_of i t.slot) (way_of t.slot) o)

  open_at : (e : End) (o : Open) → moved_open f o (handshake_at q (moved_end f e)) ≡ o (handshake_at p e)
  open_at e o = ap (moved_open f o) (name_moved e) ∙ ap o (back_and_there f is.one_to_one (handshake_at p e))

  well_moved : (e : End) (way : Direction) (o : Open) (s : Tokens)
      → ComesWell p e way o s → ComesWell q (moved_end f e) way (moved_open f o) (moved_tokens f s)
  well_moved e Request o s well = open_at e o ∙ well
  well_moved e Answer o s well = (open_at e o ∙ well.0, λ way. token_moved f p q is s e way ∙ well.1 way)

  all_well_moved : (i : ℕ) (ts : List Token) (o : Open) (s : Tokens)
      → AllComeWell p i ts o s → AllComeWell q (f.part i) ts (moved_open f o) (moved_tokens f s)
  all_well_moved i [] o s well = tt
  all_well_moved i (t ∷ ts) o s well = (
    well_moved (end_of i t.slot) (way_of t.slot) o s well.0,
    subst (λ u. AllComeWell q (f.part i) ts u (with_token q (end_of (f.part i) t.slot) (way_of t.slot) (Some t.value) (moved_tokens f s)))
        (after_put_moved (end_of i t.slot) (way_of t.slot) o)
        (subst (λ w. AllComeWell q (f.part i) ts (moved_open f (after_put p (end_of i t.slot) (way_of t.slot) o)) w)
        (sym (token_filled f p q is (end_of i t.slot) (way_of t.slot) (Some t.value) s))
        (all_well_moved i ts (after_put p (end_of i t.slot) (way_of t.slot) o) (with_token p (end_of i t.slot) (way_of t.slot) (Some t.value) s) well.1)),
  )

  comes_moved : (x : Element) (s w : Tokens) (o u : Open)
      → ComesInOrder p x s o u → ComesInOrder q (moved f x) (moved_tokens f s) (moved_open f o) (moved_open f u)
  comes_moved (Fire i t) s w o u comes = λ v x lies fires.
      let both = comes v x (sym (token_moved f p q is s (end_of i t) (way_of t)) ∙ lies) (sym (firing_moved i t s) ∙ fires) in (
        subst
            (λ a. AllComeWell q (f.part i) (x.puts v) a (with_state (f.part i) (x.next v) (with_token q (end_of (f.part i) x.takes) (way_of x.takes) None (moved_tokens f s))))
            (after_taken_moved (end_of i t) (way_of t) o)
            (subst (λ z. AllComeWell q (f.part i) (x.puts v) (moved_open f (after_taken p (end_of i t) (way_of t) o)) z) (sym (taken_moved i x v s))
            (all_well_moved i (x.puts v) (after_taken p (end_of i t) (way_of t) o)
            (with_state i (x.next v) (with_token p (end_of i x.takes) (way_of x.takes) None s)) both.0)),
        ap (moved_open f) both.1
            ∙ (after_puts_moved i (x.puts v) (after_taken p (end_of i t) (way_of t) o)
            ∙ ap (after_puts q (f.part i) (x.puts v)) (after_taken_moved (end_of i t) (way_of t) o)),
      )
  comes_moved (Out e v) s w o u comes = λ c there.
      ap (moved_open f) (comes c (sym (contact_moved f p q is e) ∙ there)) ∙ after_taken_moved e (way_taken c.role) o
  comes_moved (In e v) s w o u comes = λ c there.
      let both = comes c (sym (contact_moved f p q is e) ∙ there) in
      (well_moved e (way_put c.role) o s both.0, ap (moved_open f) both.1 ∙ after_put_moved e (way_put c.role) o)

  abbrev TakesAt : Plan → Tokens → ℕ → Type 0
  TakesAt r s i =
      (t : Slot) (c : Contact) (v : ℕ)
      → contact_at r (end_of i t) ≡ Some c → way_taken c.role ≡ way_of t → token_at r s (end_of i t) (way_of t) ≡ Some v
      → (x : Row) × (firing_of (slice_get r.parts i) (s.state i) t ≡ Some x)

  welcome_moved : (s : Tokens) → AllWelcome p s → AllWelcome q (moved_tokens f s)
  welcome_moved s all i t c v there way lies = subst (TakesAt q (moved_tokens f s)) (is.one_to_one.parts_back i) (at_moved (f.part_back i)) t c v there way lies
    where
      at_moved : (j : ℕ) → TakesAt q (moved_tokens f s) (f.part j)
      at_moved j t c v there way lies =
          let (x, fires) =
          all j t c v (sym (contact_moved f p q is (end_of j t)) ∙ there) way (sym (token_moved f p q is s (end_of j t) (way_of t)) ∙ lies)
          in
          (x, firing_moved j t s ∙ fires)

  orderly_moved : (xs : List Element) (o u : Open) (s t : Tokens) → OrderlyFrom p xs o s u t
      → OrderlyFrom q (moved_list f xs) (moved_open f o) (moved_tokens f s) (moved_open f u) (moved_tokens f t)
  orderly_moved [] o u s t same = (ap (moved_open f) same.0, ap (moved_tokens f) same.1)
  orderly_moved (x ∷ xs) o u s t (m, w, does, comes, welcome, rest) = (
    moved_open f m,
    moved_tokens f w,
    does_is_moved f p q x s w is does,
    comes_moved x s w o m comes,
    welcome_moved w welcome,
    orderly_moved xs m u w t rest,
  )

  goes_back : (x : Element) (s : Tokens) (acts : List Act) → GoesOn q (moved_tokens f s) (moved f x) acts → GoesOn p s x acts
  goes_back (Fire i (Req h)) s acts goes = tt
  goes_back (Fire i (Ans h)) s acts goes = λ v x lies fires.
      goes v x (token_moved f p q is s (PartEnd i h) Answer ∙ lies) (firing_moved i (Ans h) s ∙ fires)
  goes_back (Out e v) s acts goes = tt
  goes_back (In e v) s acts goes = tt

  -- what is shown
  shows_same : (x : Element) → shows q (moved f x) ≡ shows p x
  shows_same (Fire i t) = refl
  shows_same (Out (PartEnd i h) v) = refl
  shows_same (Out (ImportEnd i h) v) = λ k. record { port = port_if (is.imports i k); event = event_number Request h; value = v } ∷ []
  shows_same (Out (ResultEnd h) v) = refl
  shows_same (In (PartEnd i h) v) = refl
  shows_same (In (ImportEnd i h) v) = λ k. record { port = port_if (is.imports i k); event = event_number Answer h; value = v } ∷ []
  shows_same (In (ResultEnd h) v) = refl

  -- turns
  pub out_pass : (e : End) → pass (moved_end f e) (way_out (contact_at q (moved_end f e))) ≡ moved_pass f (pass e (way_out (contact_at p e)))
  out_pass e = ap (λ (c : Option Contact). pass (moved_end f e) (way_out c)) (contact_moved f p q is e)

  pub in_pass : (e : End) → pass (moved_end f e) (way_in (contact_at q (moved_end f e))) ≡ moved_pass f (pass e (way_in (contact_at p e)))
  in_pass e = ap (λ (c : Option Contact). pass (moved_end f e) (way_in c)) (contact_moved f p q is e)

  abbrev InThen : List Pass → List Element → Pass → Type 0
  InThen past xs x = KeepsTurns q past x × InputsKeepTurns q (x ∷ past) xs

  abbrev OutThen : List Pass → List Element → Pass → Type 0
  OutThen past xs x = KeepsTurns q past x × OutputsKeepTurns q (x ∷ past) xs

  pub inputs_moved : (xs : List Element) (past : List Pass) → InputsKeepTurns p past xs → InputsKeepTurns q (moved_passes f past) (moved_list f xs)
  inputs_moved [] past keeps = tt
  inputs_moved (Fire i k ∷ xs) past keeps = inputs_moved xs past keeps
  inputs_moved (Out e v ∷ xs) past keeps =
      subst (λ (x : Pass). InputsKeepTurns q (x ∷ moved_passes f past) (moved_list f xs)) (sym (out_pass e))
      (inputs_moved xs (pass e (way_out (contact_at p e)) ∷ past) keeps)
  inputs_moved (In e v ∷ xs) past keeps =
      subst (InThen (moved_passes f past) (moved_list f xs)) (sym (in_pass e))
      (turns_forth f p q is past (pass e (way_in (contact_at p e))) keeps.0, inputs_moved xs (pass e (way_in (contact_at p e)) ∷ past) keeps.1)

  outputs_back : (xs : List Element) (past : List Pass) → OutputsKeepTurns q (moved_passes f past) (moved_list f xs) → OutputsKeepTurns p past xs
  outputs_back [] past keeps = tt
  outputs_back (Fire i k ∷ xs) past keeps = outputs_back xs past keeps
  outputs_back (In e v ∷ xs) past keeps =
      outputs_back xs (pass e (way_in (contact_at p e)) ∷ past)
      (subst (λ (x : Pass). OutputsKeepTurns q (x ∷ moved_passes f past) (moved_list f xs)) (in_pass e) keeps)
  outputs_back (Out e v ∷ xs) past keeps =
      let both = subst (OutThen (moved_passes f past) (moved_list f xs)) (out_pass e) keeps in
      (turns_back f p q is past (pass e (way_out (contact_at p e))) both.0, outputs_back xs (pass e (way_out (contact_at p e)) ∷ past) both.1)

-- the other way, since a renumbering can be undone
module _ (f : Renumber) (p q : Plan) (is : IsRenumbered f p q) where
  idle_back : (s : Tokens) → IsIdle q (moved_tokens f s) → IsIdle p s
  idle_back s idle = subst (IsIdle p) (tokens_round f is.one_to_one s) (idle_moved (back f) q p (moved_tokens f s) idle)

  ordered_back : (xs : List Element) (s : Tokens) → IsOrderly q (moved_list f xs) (moved_tokens f s) → IsOrderly p xs s
  ordered_back xs s (u, t, order) =
      let there = orderly_moved (back f) q p (renumbered_back f p q is) (moved_list f xs) none_open u (moved_tokens f s) t order in
      let at_s =
      subst (λ x. OrderlyFrom p (moved_list (back f) (moved_list f xs)) none_open x (moved_open (back f) u) (moved_tokens (back f) t)) (tokens_round f is.one_to_one s) there
      in (
        moved_open (back f) u,
        moved_tokens (back f) t,
        subst (λ ys. OrderlyFrom p ys none_open s (moved_open (back f) u) (moved_tokens (back f) t)) (list_round f is.one_to_one xs) at_s,
      )

  -- a plan is regular where a renumbered one is
  pub regular_back : IsRegular q → IsRegular p
  regular_back regular s t xs idle runs keeps =
      let both =
      regular (moved_tokens f s) (moved_tokens f t) (moved_list f xs) (idle_moved f p q s idle) (runs_is_moved f p q xs s t is runs)
      (inputs_moved f p q is xs [] keeps)
      in
      (ordered_back xs s both.0, outputs_back f p q is xs [] both.1)

  pub reordered : AreReordered f.import f.import_back p.imports q.imports
  reordered =
      record {
        there = is.imports;
        here = λ n. sym (is.imports (f.import_back n)) ∙ ap (slice_get q.imports) (is.one_to_one.imports_back n);
        returns = is.one_to_one.imports_back;
      }

  -- and realises a program of a ground type
  module _ (m : Term) (same : SameImports p.imports q.imports) where
    agrees_back : (s : Tokens) (c : Config) → Agrees q (program_of q m) (moved_tokens f s) c → Agrees p (program_of p m) s c
    agrees_back s c agrees = (
      λ quiet. stalled_same q.imports p.imports (imports_back p.imports q.imports same) m c (agrees.0 (quiet_is_moved f p q s is quiet)),
      λ e. idle_back s (agrees.1 e),
    )

    matched_back : (xs : List Element) (s : Tokens) (c : Config)
        → IsMatched q (program_of q m) (moved_list f xs) (moved_tokens f s) c → IsMatched p (program_of p m) xs s c
    matched_back [] s c matched = agrees_back s c matched
    matched_back (x ∷ xs) s c (agrees, after) = (
      agrees_back s c agrees,
      λ t does.
          let (acts, d, moves, shown, goes, rest) = after (moved_tokens f t) (does_is_moved f p q x s t is does) in (
            acts,
            d,
            moves_same q.imports p.imports (imports_back p.imports q.imports same) m acts c d moves,
            shown ∙ shows_same f p q is x,
            goes_back f p q is x s acts goes,
            matched_back xs t d rest,
          ),
    )

    pub realises_back : RealisesInTurn q m → RealisesInTurn p m
    realises_back done s t xs idle runs keeps =
        let both =
        done (moved_tokens f s) (moved_tokens f t) (moved_list f xs) (idle_moved f p q s idle) (runs_is_moved f p q xs s t is runs)
        (inputs_moved f p q is xs [] keeps)
        in
        (matched_back xs s Idle both.0, ordered_back xs s both.1)
