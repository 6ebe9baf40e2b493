-- A list of the whole is orderly where those of its regions are.
--
-- No two ends of the regions are one, so what one opens and closes leaves the handshakes of the other as they are (`Opened`). The part
-- that asks opens and closes the handshakes at which it waits, by its phase.
use Rattle.std.specs.Prelude.{◌≡◌, ◌⊎◌, ℕ, zero, suc, Bool, true, false, List, [], ◌∷◌, ◌++◌, Option, Some, None, All, slice_get}
use Rattle.std.proofs.Common.{arith, refl, sym, ap, subst, inl, inr, ◌∙◌}
use Rattle.std.proofs.lemmas.Option.{none-some, same_Some}
use Rattle.gos_types.specs.declared.shakes.Role.TheVariants.{Serve, Ask}
use Rattle.gos_types.specs.Events.{Request, Answer}
use Rattle.gos_plan.specs.Kinds as kinds
use Rattle.gos_plan.specs.Kinds.{Part, Contact, asks, serves, part_contacts, contacts_of}
use Rattle.gos_plan.specs.Firing.{Phase, Rest, Both, LeftOnly, RightOnly, Slot, Req, Ans, Row, at, row_for, rows, quiet_row}
use Rattle.gos_plan.specs.Plans.{End, PartEnd, ImportEnd, ResultEnd, Plan, contacts_of_part}
use Rattle.gos_plan.specs.Tokens.{Tokens, Element, Fire, Out, In, places_of, held_at, token_at, end_of, shake_of, way_of, way_taken, way_put, firing_of, Does, IsIdle}
use Rattle.gos_plan.specs.Orderly.{Open, named_by, handshake_at, none_open, with_open, after_taken, after_put, ComesWell, ComesInOrder, AllWelcome, OrderlyFrom}
use Rattle.gos_plan.specs.TokenBits.{LiteralFits}
use Rattle.gos_plan.proofs.JointLemmas.{apart_is_not_same}
use Rattle.gos_plan.proofs.HeldLemmas as held
use Rattle.gos_plan.proofs.HeldLemmas.{nothing_there}
use Rattle.gos_plan.proofs.ProjectionLemmas.{named}
use Rattle.gos_joining.specs.webs.Cutting.{Cut, lies_at, cut_tokens}
use Rattle.gos_realises.specs.realises.Regular.{Pass, is_request, is_open}
use Rattle.gos_realises.proofs.realises.RingLemmas.{after}
use Rattle.gos_sharing.proofs.cores.VariableLemmas.{apart_shakes}
use Rattle.gos_nodes.specs.parallel.Parallel.{IsPartOf, IsParallel}
use Rattle.gos_nodes.proofs.parallel.EndLemmas.{Lies, in_part, at_import, at_driver, lies}
use Rattle.gos_nodes.proofs.parallel.GateLemmas.{gate, Same, result_gate, part_gate}
use Rattle.gos_nodes.proofs.parallel.HungLemmas.{Held, Local, Sees, Unseen}
use Rattle.gos_nodes.proofs.parallel.DriverLemmas.{begin_row, end_row}
use Rattle.gos_nodes.proofs.parallel.StepLemmas.{Step, of_left, of_right, asked, told, starts, left_ends, right_ends, left_ends_all, right_ends_all, lost, IsSeen, Differ, hung_left, hung_right, not_both_inner, is_run, result_contact}
use Rattle.gos_nodes.proofs.parallel.LinkedLemmas.{left_runs, right_runs, Stage, Driven, Comes, left_seen, right_seen, when_starting, when_working, way_asked, way_told, asked_turn}
use Rattle.gos_nodes.proofs.parallel.OpenLemmas.{OpenAgree, IsApart, comes_by, side_step}
use Rattle.gos_nodes.proofs.parallel.AskedLemmas.{with_itself, with_other, peel, local_past, contact_part, asked_next, told_next, asked_agrees, told_agrees, welcome_inside, last_well}

-- a token that lies at an end under its own name
pub lies_open : (r : Plan) (e : End) (o : Open) (s : Tokens) (v : ℕ) → handshake_at r e ≡ e → held.AllFit o s → token_at r s e Answer ≡ Some v → o e ≡ true
lies_open r e o s v name fit lies = by_place (places_of r e) refl
  where
    fits_open : (b : Bool) (a : Option ℕ) → held.Fits b a (Some v) → b ≡ true
    fits_open true a h = refl
    fits_open false a h = let bad : Some v ≡ None = h.1 in absurd (cc bad)

    by_place : (x : Option End) → places_of r e ≡ x → o e ≡ true
    by_place None none = absurd (nothing_there r e Answer v s lies none)
    by_place (Some a) at =
        let same : a ≡ e = ap (λ x. named_by x e) (sym at) ∙ name in
        let here : s.in_place Answer e ≡ Some v = ap (s.in_place Answer) (sym same) ∙ (sym (ap (held_at s Answer) at) ∙ lies) in
        fits_open (o e) (s.in_place Request e) (subst (λ (x : Option ℕ). held.Fits (o e) (s.in_place Request e) x) here (fit e))

module _
    (d : ℕ) (f g : Cut) (r p q : Plan) (is : IsParallel d f g r p q) (literals : All LiteralFits r.parts) where
  -- no end is of both regions, and the result's is of none
  apart_ends : (b : End) → Lies d 0 f b → Lies d 1 g b → ⊥
  apart_ends b (in_part i j k at number) (in_part a c e also number') =
      let same : i ≡ a = cc (at, also) in is.apart i (j, number) (c, ap g.number same ∙ number')
  apart_ends b (in_part i j k at number) (at_import a c e also inner) = let bad : PartEnd i k ≡ ImportEnd c e = sym at ∙ also in cc bad
  apart_ends b (in_part i j k at number) (at_driver also) =
      let same : i ≡ d = cc (at, also) in
      let clash : None ≡ Some j = sym is.left.outside ∙ (ap f.number (sym same) ∙ number) in cc clash
  apart_ends b (at_import i j k at inner) (in_part a c e also number) = let bad : ImportEnd j k ≡ PartEnd a e = sym at ∙ also in cc bad
  apart_ends b (at_import i j k at inner) (at_import a c e also inner') =
      let same : ImportEnd j k ≡ ImportEnd c e = sym at ∙ also in
      not_both_inner d f g r p q is j k (ImportEnd i k) (ImportEnd a e) inner (ap g.inner same ∙ inner')
  apart_ends b (at_import i j k at inner) (at_driver also) = let bad : ImportEnd j k ≡ PartEnd d 1 = sym at ∙ also in cc bad
  apart_ends b (at_driver at) (in_part a c e also number) =
      let same : d ≡ a = cc (at, also) in
      let clash : None ≡ Some c = sym is.right.outside ∙ (ap g.number same ∙ number) in cc clash
  apart_ends b (at_driver at) (at_import a c e also inner) = let bad : PartEnd d 0 ≡ ImportEnd c e = sym at ∙ also in cc bad
  apart_ends b (at_driver at) (at_driver also) = let same : PartEnd d 0 ≡ PartEnd d 1 = sym at ∙ also in apart_shakes d 0 1 zero_not_one same
    where
      zero_not_one : Differ 0 1
      zero_not_one e = omega (arith, e)

  not_result : (h : ℕ) (c : Cut) (b : End) → Lies d h c b → b ≡ ResultEnd 0 → ⊥
  not_result h c b (in_part i j k at number) e = let bad : PartEnd i k ≡ ResultEnd 0 = sym at ∙ e in cc bad
  not_result h c b (at_import i j k at inner) e = let bad : ImportEnd j k ≡ ResultEnd 0 = sym at ∙ e in cc bad
  not_result h c b (at_driver at) e = let bad : PartEnd d h ≡ ResultEnd 0 = sym at ∙ e in cc bad

  right_apart : (m : End) → Held q m → IsApart f p (lies_at g m)
  right_apart m also n held =
      apart_is_not_same (lies_at g m) (lies_at f n)
      (λ e. apart_ends (lies_at f n) (lies d 0 f r p is.left n held) (subst (Lies d 1 g) e (lies d 1 g r q is.right m also)))

  left_apart : (m : End) → Held p m → IsApart g q (lies_at f m)
  left_apart m also n held =
      apart_is_not_same (lies_at f m) (lies_at g n)
      (λ e. apart_ends (lies_at f m) (lies d 0 f r p is.left m also) (subst (Lies d 1 g) (sym e) (lies d 1 g r q is.right n held)))

  result_apart_left : IsApart f p (ResultEnd 0)
  result_apart_left n held = apart_is_not_same (ResultEnd 0) (lies_at f n) (λ e. not_result 0 f (lies_at f n) (lies d 0 f r p is.left n held) (sym e))

  result_apart_right : IsApart g q (ResultEnd 0)
  result_apart_right n held = apart_is_not_same (ResultEnd 0) (lies_at g n) (λ e. not_result 1 g (lies_at g n) (lies d 1 g r q is.right n held) (sym e))

  -- what is open in the whole and in its regions
  pub record Opened (past : List Pass) (o left_open right_open : Open) (s : Tokens) : Type 0 where
    pub left : OpenAgree f p o left_open
    pub right : OpenAgree g q o right_open
    pub result : o (ResultEnd 0) ≡ is_open past (ResultEnd 0)
    pub left_waits : o (PartEnd d 0) ≡ left_runs (s.state d).phase
    pub right_waits : o (PartEnd d 1) ≡ right_runs (s.state d).phase
    pub fit : held.AllFit o s

  -- the names of the part's handshakes
  not_serving : (h : ℕ) → ((c : Contact) → slice_get (part_contacts kinds.Par) h ≡ Some c → c.role ≡ Serve → ⊥) → handshake_at r (PartEnd d h) ≡ PartEnd d h
  not_serving h asking = named r d h kinds.Par is.left.cut.whole_right is.driver asking

  asks_only : (x c : Contact) → Some x ≡ Some c → x.role ≡ Ask → c.role ≡ Serve → ⊥
  asks_only x c same role serve =
      let one : x ≡ c = cc same in
      let clash : Ask ≡ Serve = sym role ∙ (ap (λ (y : Contact). y.role) one ∙ serve) in cc clash

  left_name : handshake_at r (PartEnd d 0) ≡ PartEnd d 0
  left_name = not_serving 0 (λ c e serve. asks_only (asks 0 0) c e refl serve)

  right_name : handshake_at r (PartEnd d 1) ≡ PartEnd d 1
  right_name = not_serving 1 (λ c e serve. asks_only (asks 0 0) c e refl serve)

  result_name : handshake_at r (ResultEnd 0) ≡ ResultEnd 0
  result_name = ap (λ o. named_by o (ResultEnd 0)) (result_gate (is_run d f g r p q is))

  -- the rows of the part
  pub par_firing : (slot : Slot) (row : Row) (ph : Phase) (s : Tokens) → (s.state d).phase ≡ ph → row_for slot (rows kinds.Par ph (s.state d).number) ≡ Some row
      → firing_of (slice_get r.parts d) (s.state d) slot ≡ Some row
  par_firing slot row ph s phase known =
      subst (λ (o : Option Part). firing_of o (s.state d) slot ≡ Some row) (sym is.driver)
      (subst (λ (x : Phase). row_for slot (rows kinds.Par x (s.state d).number) ≡ Some row) (sym phase) known)

  -- each token finds its part ready
  welcome_part : (s : Tokens) (o : Open) (up : Bool) → Stage up (s.state d).phase (gate s Request) (gate s Answer)
      → o (PartEnd d 0) ≡ left_runs (s.state d).phase → o (PartEnd d 1) ≡ right_runs (s.state d).phase → held.AllFit o s
      → (t : Slot) (c : Contact) (v : ℕ) → slice_get (part_contacts kinds.Par) (shake_of t) ≡ Some c → way_taken c.role ≡ way_of t
      → token_at r s (end_of d t) (way_of t) ≡ Some v → (row : Row) × (firing_of (slice_get r.parts d) (s.state d) t ≡ Some row)
  welcome_part s o up stage left_waits right_waits fit (Req zero) c v there way lies =
      let bad : Answer ≡ Request = ap (λ (x : Contact). way_taken x.role) (same_Some (asks 0 0) c there) ∙ way in absurd (cc bad)
  welcome_part s o up stage left_waits right_waits fit (Req (suc zero)) c v there way lies =
      let bad : Answer ≡ Request = ap (λ (x : Contact). way_taken x.role) (same_Some (asks 0 0) c there) ∙ way in absurd (cc bad)
  welcome_part s o up stage left_waits right_waits fit (Req (suc (suc zero))) c v there way lies =
      let some : gate s Request ≡ Some v = sym (ap (held_at s Request) (part_gate (is_run d f g r p q is))) ∙ lies in
      let (opened, rest, empty) = when_starting up (s.state d).phase (gate s Request) (gate s Answer) v stage some in
      (begin_row (s.state d).number, par_firing (Req 2) (begin_row (s.state d).number) Rest s rest refl)
  welcome_part s o up stage left_waits right_waits fit (Req (suc (suc (suc n)))) c v there way lies = absurd (none-some c there)
  welcome_part s o up stage left_waits right_waits fit (Ans zero) c v there way lies =
      by_phase (s.state d).phase refl (sym left_waits ∙ lies_open r (PartEnd d 0) o s v left_name fit lies)
    where
      by_phase : (ph : Phase) → (s.state d).phase ≡ ph → left_runs (s.state d).phase ≡ true
          → (row : Row) × (firing_of (slice_get r.parts d) (s.state d) (Ans 0) ≡ Some row)
      by_phase Both e runs =
          (quiet_row (Ans 0) (at RightOnly (s.state d).number), par_firing (Ans 0) (quiet_row (Ans 0) (at RightOnly (s.state d).number)) Both s e refl)
      by_phase LeftOnly e runs = (end_row 0 (s.state d).number, par_firing (Ans 0) (end_row 0 (s.state d).number) LeftOnly s e refl)
      by_phase ph e runs = let bad : true ≡ false = sym runs ∙ ap left_runs e in absurd (cc bad)
  welcome_part s o up stage left_waits right_waits fit (Ans (suc zero)) c v there way lies =
      by_phase (s.state d).phase refl (sym right_waits ∙ lies_open r (PartEnd d 1) o s v right_name fit lies)
    where
      by_phase : (ph : Phase) → (s.state d).phase ≡ ph → right_runs (s.state d).phase ≡ true
          → (row : Row) × (firing_of (slice_get r.parts d) (s.state d) (Ans 1) ≡ Some row)
      by_phase Both e runs =
          (quiet_row (Ans 1) (at LeftOnly (s.state d).number), par_firing (Ans 1) (quiet_row (Ans 1) (at LeftOnly (s.state d).number)) Both s e refl)
      by_phase RightOnly e runs = (end_row 1 (s.state d).number, par_firing (Ans 1) (end_row 1 (s.state d).number) RightOnly s e refl)
      by_phase ph e runs = let bad : true ≡ false = sym runs ∙ ap right_runs e in absurd (cc bad)
  welcome_part s o up stage left_waits right_waits fit (Ans (suc (suc zero))) c v there way lies =
      let bad : Request ≡ Answer = ap (λ (x : Contact). way_taken x.role) (same_Some (serves 0 0) c there) ∙ way in absurd (cc bad)
  welcome_part s o up stage left_waits right_waits fit (Ans (suc (suc (suc n)))) c v there way lies = absurd (none-some c there)

  pub welcome_all : (s : Tokens) (past : List Pass) (o left_open right_open : Open) (up : Bool)
      → Stage up (s.state d).phase (gate s Request) (gate s Answer) → Opened past o left_open right_open s
      → AllWelcome p (cut_tokens f p s) → AllWelcome q (cut_tokens g q s) → AllWelcome r s
  welcome_all s past o left_open right_open up stage opened left_welcome right_welcome i t c v there way lies =
      let (k, part) = contact_part (slice_get r.parts i) (shake_of t) c there in by_part (is.parts i k part)
    where
      by_part : (IsPartOf f i ⊎ IsPartOf g i) ⊎ (i ≡ d) → (row : Row) × (firing_of (slice_get r.parts i) (s.state i) t ≡ Some row)
      by_part (inl (inl one)) = welcome_inside (hung_left d f g r p q is) s left_welcome i one t c v there way lies
      by_part (inl (inr other)) = welcome_inside (hung_right d f g r p q is) s right_welcome i other t c v there way lies
      by_part (inr same) =
          let here : slice_get (part_contacts kinds.Par) (shake_of t) ≡ Some c =
          sym (ap (λ o. slice_get (contacts_of_part o) (shake_of t)) (ap (λ n. slice_get r.parts n) same ∙ is.driver)) ∙ there in
          subst (λ n. (row : Row) × (firing_of (slice_get r.parts n) (s.state n) t ≡ Some row)) (sym same)
          (welcome_part s o up stage opened.left_waits opened.right_waits opened.fit t c v here way
          (ap (λ n. token_at r s (end_of n t) (way_of t)) (sym same) ∙ lies))

  -- after one element
  pub record Next (x : Element) (s w : Tokens) (past : List Pass) (o : Open) (ys zs : List Element) (lu : Open) (lt : Tokens) (ru : Open) (rt : Tokens) : Type 0 where
    pub open_now : Open
    pub left_now : Open
    pub right_now : Open
    pub comes : ComesInOrder r x s o open_now
    pub opened : Opened (after r x past) open_now left_now right_now w
    pub left_welcome : AllWelcome p (cut_tokens f p w)
    pub right_welcome : AllWelcome q (cut_tokens g q w)
    pub left_rest : OrderlyFrom p ys left_now (cut_tokens f p w) lu lt
    pub right_rest : OrderlyFrom q zs right_now (cut_tokens g q w) ru rt

  one_not_zero : PartEnd d 1 ≡ PartEnd d 0 → ⊥
  one_not_zero = apart_shakes d 1 0 (λ e. omega (arith, e))

  zero_not_one : PartEnd d 0 ≡ PartEnd d 1 → ⊥
  zero_not_one = apart_shakes d 0 1 (λ e. omega (arith, e))

  -- no end of a region is that at which the part asks the other
  left_not_one : (n : End) → Held p n → lies_at f n ≡ PartEnd d 1 → ⊥
  left_not_one n held e = apart_ends (lies_at f n) (lies d 0 f r p is.left n held) (at_driver e)

  right_not_zero : (n : End) → Held q n → lies_at g n ≡ PartEnd d 0 → ⊥
  right_not_zero n held e = apart_ends (lies_at g n) (at_driver e) (lies d 1 g r q is.right n held)

  module _ (past lefts rights : List Pass) (o lo ro lu ru : Open) (lt rt : Tokens) (ys zs : List Element) where
    abbrev Result : Element → Tokens → Tokens → Type 0
    Result x s w = Next x s w past o ys zs lu lt ru rt

    on_left : (x y : Element) (s w : Tokens) → Local f r p x y → Does r x s w → Sees f p y s w → Unseen g q s w → Same d s w → Opened past o lo ro s
        → AllWelcome q (cut_tokens g q s) → OrderlyFrom p (y ∷ ys) lo (cut_tokens f p s) lu lt → OrderlyFrom q zs ro (cut_tokens g q s) ru rt
        → is_open past (ResultEnd 0) ≡ is_open (after r x past) (ResultEnd 0) → Result x s w
    on_left x y s w local does sees unseen same opened welcome left_list right_list past_same =
        let (next, own_comes, left_welcome, rest) = peel p y ys lo lu (cut_tokens f p s) (cut_tokens f p w) lt sees left_list in
        let one = side_step (hung_left d f g r p q is) x y s w o lo next local opened.left does own_comes in
        record {
          open_now = one.now;
          left_now = next;
          right_now = ro;
          comes = one.comes;
          opened =
              record {
                left = one.agree;
                right = λ n held. one.kept (lies_at g n) (right_apart n held) ∙ opened.right n held;
                result = one.kept (ResultEnd 0) result_apart_left ∙ (opened.result ∙ past_same);
                left_waits = one.driver 0 ∙ (opened.left_waits ∙ ap (λ c. left_runs c.phase) (sym same.state));
                right_waits = one.driver 1 ∙ (opened.right_waits ∙ ap (λ c. right_runs c.phase) (sym same.state));
                fit = held.step r x o one.now s w does one.comes opened.fit;
              };
          left_welcome = left_welcome;
          right_welcome = subst (AllWelcome q) (sym unseen) welcome;
          left_rest = rest;
          right_rest = subst (λ (a : Tokens). OrderlyFrom q zs ro a ru rt) (sym unseen) right_list;
        }

    on_right : (x y : Element) (s w : Tokens) → Local g r q x y → Does r x s w → Sees g q y s w → Unseen f p s w → Same d s w → Opened past o lo ro s
        → AllWelcome p (cut_tokens f p s) → OrderlyFrom p ys lo (cut_tokens f p s) lu lt → OrderlyFrom q (y ∷ zs) ro (cut_tokens g q s) ru rt
        → is_open past (ResultEnd 0) ≡ is_open (after r x past) (ResultEnd 0) → Result x s w
    on_right x y s w local does sees unseen same opened welcome left_list right_list past_same =
        let (next, own_comes, right_welcome, rest) = peel q y zs ro ru (cut_tokens g q s) (cut_tokens g q w) rt sees right_list in
        let one = side_step (hung_right d f g r p q is) x y s w o ro next local opened.right does own_comes in
        record {
          open_now = one.now;
          left_now = lo;
          right_now = next;
          comes = one.comes;
          opened =
              record {
                left = λ n held. one.kept (lies_at f n) (left_apart n held) ∙ opened.left n held;
                right = one.agree;
                result = one.kept (ResultEnd 0) result_apart_right ∙ (opened.result ∙ past_same);
                left_waits = one.driver 0 ∙ (opened.left_waits ∙ ap (λ c. left_runs c.phase) (sym same.state));
                right_waits = one.driver 1 ∙ (opened.right_waits ∙ ap (λ c. right_runs c.phase) (sym same.state));
                fit = held.step r x o one.now s w does one.comes opened.fit;
              };
          left_welcome = subst (AllWelcome p) (sym unseen) welcome;
          right_welcome = right_welcome;
          left_rest = subst (λ (a : Tokens). OrderlyFrom p ys lo a lu lt) (sym unseen) left_list;
          right_rest = rest;
        }

    -- the result is asked, or answers
    at_result : (x : Element) (s w : Tokens) (b : Bool) → Does r x s w → Unseen f p s w → Unseen g q s w → w.state d ≡ s.state d → Opened past o lo ro s
        → AllWelcome p (cut_tokens f p s) → AllWelcome q (cut_tokens g q s) → OrderlyFrom p ys lo (cut_tokens f p s) lu lt
        → OrderlyFrom q zs ro (cut_tokens g q s) ru rt → b ≡ is_open (after r x past) (ResultEnd 0)
        → ComesInOrder r x s o (with_open (ResultEnd 0) b o) → Result x s w
    at_result x s w b does left right state opened left_welcome right_welcome left_list right_list now comes =
        record {
          open_now = with_open (ResultEnd 0) b o;
          left_now = lo;
          right_now = ro;
          comes = comes;
          opened =
              record {
                left = λ n held.
                    with_other (ResultEnd 0) (lies_at f n) b o (not_result 0 f (lies_at f n) (lies d 0 f r p is.left n held)) ∙ opened.left n held;
                right = λ n held.
                    with_other (ResultEnd 0) (lies_at g n) b o (not_result 1 g (lies_at g n) (lies d 1 g r q is.right n held)) ∙ opened.right n held;
                result = now;
                left_waits = opened.left_waits ∙ ap (λ c. left_runs c.phase) (sym state);
                right_waits = opened.right_waits ∙ ap (λ c. right_runs c.phase) (sym state);
                fit = held.step r x o (with_open (ResultEnd 0) b o) s w does comes opened.fit;
              };
          left_welcome = subst (AllWelcome p) (sym left) left_welcome;
          right_welcome = subst (AllWelcome q) (sym right) right_welcome;
          left_rest = subst (λ (a : Tokens). OrderlyFrom p ys lo a lu lt) (sym left) left_list;
          right_rest = subst (λ (a : Tokens). OrderlyFrom q zs ro a ru rt) (sym right) right_list;
        }

    -- the part asks both
    begins : (s w : Tokens) → Does r (Fire d (Req 2)) s w → Sees f p (In (ResultEnd 0) 0) s w → Sees g q (In (ResultEnd 0) 0) s w → (s.state d).phase ≡ Rest
        → (w.state d).phase ≡ Both → Opened past o lo ro s → OrderlyFrom p (In (ResultEnd 0) 0 ∷ ys) lo (cut_tokens f p s) lu lt
        → OrderlyFrom q (In (ResultEnd 0) 0 ∷ zs) ro (cut_tokens g q s) ru rt → Result (Fire d (Req 2)) s w
    begins s w does left right rest both opened left_list right_list =
        let (left_next, left_comes, left_welcome, left_rest) =
        peel p (In (ResultEnd 0) 0) ys lo lu (cut_tokens f p s) (cut_tokens f p w) lt left left_list in
        let (right_next, right_comes, right_welcome, right_rest) =
        peel q (In (ResultEnd 0) 0) zs ro ru (cut_tokens g q s) (cut_tokens g q w) rt right right_list in
        let left_is = asked_next (hung_left d f g r p q is) (cut_tokens f p s) lo left_next left_comes in
        let right_is = asked_next (hung_right d f g r p q is) (cut_tokens g q s) ro right_next right_comes in
        let n = (s.state d).number in
        let shut_left : o (PartEnd d 0) ≡ false = opened.left_waits ∙ ap left_runs rest in
        let shut_right : o (PartEnd d 1) ≡ false = opened.right_waits ∙ ap right_runs rest in
        let comes : ComesInOrder r (Fire d (Req 2)) s o now =
        comes_by r d (Req 2) s w o now (begin_row n) does (par_firing (Req 2) (begin_row n) Rest s rest refl)
        (λ v. (
          (
            ap o left_name ∙ shut_left,
            (
              (λ i. with_open (left_name i) true o (right_name i)) ∙ (with_other (PartEnd d 0) (PartEnd d 1) true o one_not_zero ∙ shut_right),
              tt,
            ),
          ),
          λ i. with_open (sym right_name i) true (with_open (sym left_name i) true o),
        )) in
        record {
          open_now = now;
          left_now = left_next;
          right_now = right_next;
          comes = comes;
          opened =
              record {
                left = λ n held.
                    with_other (PartEnd d 1) (lies_at f n) true first (left_not_one n held)
                    ∙ (asked_agrees (hung_left d f g r p q is) left_name o lo opened.left n held ∙ ap (λ (x : Open). x n) (sym left_is));
                right = λ n held.
                    asked_agrees (hung_right d f g r p q is) right_name first ro (λ m also. with_other (PartEnd d 0) (lies_at g m) true o (right_not_zero m also) ∙ opened.right m also) n held
                    ∙ ap (λ (x : Open). x n) (sym right_is);
                result = opened.result;
                left_waits = with_other (PartEnd d 1) (PartEnd d 0) true first zero_not_one ∙ (with_itself (PartEnd d 0) true o ∙ sym (ap left_runs both));
                right_waits = with_itself (PartEnd d 1) true first ∙ sym (ap right_runs both);
                fit = held.step r (Fire d (Req 2)) o now s w does comes opened.fit;
              };
          left_welcome = left_welcome;
          right_welcome = right_welcome;
          left_rest = left_rest;
          right_rest = right_rest;
        }
      where
        first : Open
        first = with_open (PartEnd d 0) true o

        now : Open
        now = with_open (PartEnd d 1) true first

    -- a region answers the part
    left_answers : (v : ℕ) (s w : Tokens) → Does r (Fire d (Ans 0)) s w → Sees f p (Out (ResultEnd 0) v) s w → Unseen g q s w → Opened past o lo ro s
        → AllWelcome q (cut_tokens g q s) → OrderlyFrom p (Out (ResultEnd 0) v ∷ ys) lo (cut_tokens f p s) lu lt → OrderlyFrom q zs ro (cut_tokens g q s) ru rt
        → left_runs (w.state d).phase ≡ false → right_runs (w.state d).phase ≡ right_runs (s.state d).phase
        → ComesInOrder r (Fire d (Ans 0)) s o (with_open (PartEnd d 0) false o) → Result (Fire d (Ans 0)) s w
    left_answers v s w does sees unseen opened welcome left_list right_list shut same comes =
        let (next, own_comes, left_welcome, rest) =
        peel p (Out (ResultEnd 0) v) ys lo lu (cut_tokens f p s) (cut_tokens f p w) lt sees left_list in
        let next_is = told_next (hung_left d f g r p q is) v (cut_tokens f p s) lo next own_comes in
        record {
          open_now = with_open (PartEnd d 0) false o;
          left_now = next;
          right_now = ro;
          comes = comes;
          opened =
              record {
                left = λ n held. told_agrees (hung_left d f g r p q is) left_name o lo opened.left n held ∙ ap (λ (x : Open). x n) (sym next_is);
                right = λ n held. with_other (PartEnd d 0) (lies_at g n) false o (right_not_zero n held) ∙ opened.right n held;
                result = opened.result;
                left_waits = with_itself (PartEnd d 0) false o ∙ sym shut;
                right_waits = with_other (PartEnd d 0) (PartEnd d 1) false o one_not_zero ∙ (opened.right_waits ∙ sym same);
                fit = held.step r (Fire d (Ans 0)) o (with_open (PartEnd d 0) false o) s w does comes opened.fit;
              };
          left_welcome = left_welcome;
          right_welcome = subst (AllWelcome q) (sym unseen) welcome;
          left_rest = rest;
          right_rest = subst (λ (a : Tokens). OrderlyFrom q zs ro a ru rt) (sym unseen) right_list;
        }

    right_answers : (v : ℕ) (s w : Tokens) → Does r (Fire d (Ans 1)) s w → Sees g q (Out (ResultEnd 0) v) s w → Unseen f p s w → Opened past o lo ro s
        → AllWelcome p (cut_tokens f p s) → OrderlyFrom p ys lo (cut_tokens f p s) lu lt → OrderlyFrom q (Out (ResultEnd 0) v ∷ zs) ro (cut_tokens g q s) ru rt
        → right_runs (w.state d).phase ≡ false → left_runs (w.state d).phase ≡ left_runs (s.state d).phase
        → ComesInOrder r (Fire d (Ans 1)) s o (with_open (PartEnd d 1) false o) → Result (Fire d (Ans 1)) s w
    right_answers v s w does sees unseen opened welcome left_list right_list shut same comes =
        let (next, own_comes, right_welcome, rest) =
        peel q (Out (ResultEnd 0) v) zs ro ru (cut_tokens g q s) (cut_tokens g q w) rt sees right_list in
        let next_is = told_next (hung_right d f g r p q is) v (cut_tokens g q s) ro next own_comes in
        record {
          open_now = with_open (PartEnd d 1) false o;
          left_now = lo;
          right_now = next;
          comes = comes;
          opened =
              record {
                left = λ n held. with_other (PartEnd d 1) (lies_at f n) false o (left_not_one n held) ∙ opened.left n held;
                right = λ n held. told_agrees (hung_right d f g r p q is) right_name o ro opened.right n held ∙ ap (λ (x : Open). x n) (sym next_is);
                result = opened.result;
                left_waits = with_other (PartEnd d 1) (PartEnd d 0) false o zero_not_one ∙ (opened.left_waits ∙ sym same);
                right_waits = with_itself (PartEnd d 1) false o ∙ sym shut;
                fit = held.step r (Fire d (Ans 1)) o (with_open (PartEnd d 1) false o) s w does comes opened.fit;
              };
          left_welcome = subst (AllWelcome p) (sym unseen) welcome;
          right_welcome = right_welcome;
          left_rest = subst (λ (a : Tokens). OrderlyFrom p ys lo a lu lt) (sym unseen) left_list;
          right_rest = rest;
        }

    pub order_step : (x : Element) (s w : Tokens) (z : Step d f g r p q x s w) → IsSeen d f g r p q x s w z → Does r x s w → Driven d past lefts rights s → Comes r past x
        → Opened past o lo ro s
        → AllWelcome p (cut_tokens f p s) → AllWelcome q (cut_tokens g q s)
        → OrderlyFrom p (left_seen d f g r p q is literals x s w z ++ ys) lo (cut_tokens f p s) lu lt
        → OrderlyFrom q (right_seen d f g r p q is literals x s w z ++ zs) ro (cut_tokens g q s) ru rt → Result x s w
    order_step x s w (of_left x' y s' t' local sees unseen same) seen does driven comes opened left_welcome right_welcome left_list right_list =
        on_left x' y s' t' local does sees unseen same opened right_welcome left_list right_list (local_past f r p past x' y local)
    order_step x s w (of_right x' y s' t' local sees unseen same) seen does driven comes opened left_welcome right_welcome left_list right_list =
        on_right x' y s' t' local does sees unseen same opened left_welcome left_list right_list (local_past g r q past x' y local)
    order_step x s w (asked v s' t' small left right state ask ans) seen does driven comes opened left_welcome right_welcome left_list right_list =
        at_result (In (ResultEnd 0) v) s' t' true does left right state opened left_welcome right_welcome left_list right_list
        (sym (ap is_request (way_asked d f g r p q is literals r is.outcome)))
        (λ c there.
        let same : asks 0 0 ≡ c = same_Some (asks 0 0) c (sym (result_contact d f g r p q is) ∙ there) in
        subst (λ (y : Contact). ComesWell r (ResultEnd 0) (way_put y.role) o s' × (with_open (ResultEnd 0) true o ≡ after_put r (ResultEnd 0) (way_put y.role) o)) same (
          ap o result_name ∙ (opened.result ∙ asked_turn d f g r p q is literals past comes),
          ap (λ (n : End). with_open n true o) (sym result_name),
        ))
    order_step x s w (told v s' t' left right state ans none ask) seen does driven comes opened left_welcome right_welcome left_list right_list =
        at_result (Out (ResultEnd 0) v) s' t' false does left right state opened left_welcome right_welcome left_list right_list
        (sym (ap is_request (way_told d f g r p q is literals r is.outcome)))
        (λ c there.
        let same : asks 0 0 ≡ c = same_Some (asks 0 0) c (sym (result_contact d f g r p q is) ∙ there) in
        subst (λ (y : Contact). with_open (ResultEnd 0) false o ≡ after_taken r (ResultEnd 0) (way_taken y.role) o) same
        (ap (λ (n : End). with_open n false o) (sym result_name)))
    order_step x s w (starts v s' t' left right rest ask both none ans) seen does driven comes opened left_welcome right_welcome left_list right_list =
        begins s' t' does left right rest both opened left_list right_list
    order_step x s w (left_ends v s' t' left right both next gates) seen does driven comes opened left_welcome right_welcome left_list right_list =
        let row = quiet_row (Ans 0) (at RightOnly (s'.state d).number) in
        left_answers v s' t' does left right opened right_welcome left_list right_list (ap left_runs next) (ap right_runs next ∙ sym (ap right_runs both))
        (comes_by r d (Ans 0) s' t' o (with_open (PartEnd d 0) false o) row does (par_firing (Ans 0) row Both s' both refl)
        (λ v. (tt, ap (λ (n : End). with_open n false o) (sym left_name))))
    order_step x s w (right_ends v s' t' right left both next gates) seen does driven comes opened left_welcome right_welcome left_list right_list =
        let row = quiet_row (Ans 1) (at LeftOnly (s'.state d).number) in
        right_answers v s' t' does right left opened left_welcome left_list right_list (ap right_runs next) (ap left_runs next ∙ sym (ap left_runs both))
        (comes_by r d (Ans 1) s' t' o (with_open (PartEnd d 1) false o) row does (par_firing (Ans 1) row Both s' both refl)
        (λ v. (tt, ap (λ (n : End). with_open n false o) (sym right_name))))
    order_step x s w (left_ends_all v s' t' left right phase rest ask ans) seen does driven comes opened left_welcome right_welcome left_list right_list =
        let row = end_row 0 (s'.state d).number in
        let (up, none, empty) =
        when_working (is_open past (ResultEnd 0)) (s'.state d).phase (gate s' Request) (gate s' Answer) driven.stage
        (λ e. let bad : LeftOnly ≡ Rest = sym phase ∙ e in cc bad) in
        left_answers v s' t' does left right opened right_welcome left_list right_list (ap left_runs rest) (ap right_runs rest ∙ sym (ap right_runs phase))
        (comes_by r d (Ans 0) s' t' o (with_open (PartEnd d 0) false o) row does (par_firing (Ans 0) row LeftOnly s' phase refl)
        (λ v. (
          (last_well (is_run d f g r p q is) 0 s' (at Rest (s'.state d).number) o (λ e. omega (arith, e)) left_name (opened.result ∙ up) none empty, tt),
          ap (λ (n : End). with_open n false o) (sym left_name),
        )))
    order_step x s w (right_ends_all v s' t' right left phase rest ask ans) seen does driven comes opened left_welcome right_welcome left_list right_list =
        let row = end_row 1 (s'.state d).number in
        let (up, none, empty) =
        when_working (is_open past (ResultEnd 0)) (s'.state d).phase (gate s' Request) (gate s' Answer) driven.stage
        (λ e. let bad : RightOnly ≡ Rest = sym phase ∙ e in cc bad) in
        right_answers v s' t' does right left opened left_welcome left_list right_list (ap right_runs rest) (ap left_runs rest ∙ sym (ap left_runs phase))
        (comes_by r d (Ans 1) s' t' o (with_open (PartEnd d 1) false o) row does (par_firing (Ans 1) row RightOnly s' phase refl)
        (λ v. (
          (last_well (is_run d f g r p q is) 1 s' (at Rest (s'.state d).number) o (λ e. omega (arith, e)) right_name (opened.result ∙ up) none empty, tt),
          ap (λ (n : End). with_open n false o) (sym right_name),
        )))
    order_step x s w (lost j k v s' t' c there not_left not_right left right same) seen does driven comes opened left_welcome right_welcome left_list right_list =
        absurd seen

  pub opened_first : (s : Tokens) → IsIdle r s → Opened [] none_open none_open none_open s
  opened_first s rests =
      record {
        left = λ n held. refl;
        right = λ n held. refl;
        result = refl;
        left_waits = sym (ap left_runs (rests.1 d));
        right_waits = sym (ap right_runs (rests.1 d));
        fit = λ a. (rests.0 Request a, rests.0 Answer a);
      }
