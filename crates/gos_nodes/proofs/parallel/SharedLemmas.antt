-- What is open at imports of the whole is open in the region that has the import, and in no other (`Shared`). So the whole keeps its
-- turns where its regions do, and a region whose result is open where the whole does.
use Rattle.std.specs.Prelude.{◌≡◌, All, ℕ, Bool, true, false, List, [], ◌∷◌, Some, slice_get, if◌then◌else◌}
use Rattle.std.proofs.Common.{refl, sym, ap, subst, ◌∙◌}
use Rattle.gos_types.specs.Types.{IsDone}
use Rattle.gos_types.specs.Events.{Direction, Request, Answer}
use Rattle.gos_model.specs.Typing.{Imported}
use Rattle.gos_plan.specs.Kinds.{Contact}
use Rattle.gos_plan.specs.Firing.{Phase, Rest}
use Rattle.gos_plan.specs.Plans.{ImportEnd, ResultEnd, Plan, contact_at, same_end}
use Rattle.gos_plan.specs.Tokens.{Tokens, Element}
use Rattle.gos_plan.specs.TokenBits.{LiteralFits}
use Rattle.gos_plan.proofs.JointLemmas.{same_is}
use Rattle.gos_joining.specs.webs.Cutting.{Cut, lies_at}
use Rattle.gos_joining.proofs.webs.CutLemmas.{place_there}
use Rattle.gos_realises.specs.realises.Regular.{Pass, pass, way_in, way_out, is_request, is_open, KeepsTurnsOf, KeepsTurns, InputsKeepTurns}
use Rattle.gos_realises.specs.realises.Realises.{NamesDiffer}
use Rattle.gos_realises.proofs.realises.RingLemmas.{after}
use Rattle.gos_realises.proofs.realises.ToldLemmas.{contains_at}
use Rattle.gos_nodes.specs.windows.OpenNodes.{IsHeard}
use Rattle.gos_nodes.proofs.parallel.GateLemmas.{gate}
use Rattle.gos_nodes.proofs.parallel.HungLemmas.{Local, fires, puts_out, takes_in, import_contact}
use Rattle.gos_nodes.proofs.windows.PortLemmas.{stands_place}
use Rattle.gos_nodes.proofs.windows.MeetLemmas.{Meets, met_joined, HasPorts, AreFollowed, met_contact, met_contacts, met_import, own_import, followed_pass, alike}
use Rattle.gos_realises.proofs.realises.InputLemmas.{InputTurns}
use Rattle.gos_realises.proofs.realises.PassLemmas.{open_otherwise}
use Rattle.gos_sharing.proofs.buffers.BranchLemmas.{place_stands}
use Rattle.gos_nodes.proofs.windows.TurnLemmas.{Turned, closed_turned, import_kept, imports_turned, open_before, comes_so, import_result, region_turned}
use Rattle.gos_nodes.specs.parallel.Parallel.{IsSide, IsParallel}
use Rattle.gos_nodes.proofs.parallel.StepLemmas.{Step, of_left, of_right, asked, told, starts, left_ends, right_ends, left_ends_all, right_ends_all, lost, IsSeen, hung_left, hung_right}
use Rattle.gos_nodes.proofs.parallel.LinkedLemmas.{left_runs, right_runs, Driven, past_all, when_working, left_seen, right_seen, way_asked}

pub side_ports : (d h : ℕ) (f : Cut) (r p : Plan) → IsSide d h f r p → IsHeard f r p → NamesDiffer r.imports → NamesDiffer p.imports → HasPorts r f p
side_ports d h f r p side heard whole_names names =
    record {
      right = side.cut.right;
      whole_right = side.cut.whole_right;
      names = names;
      whole_names = whole_names;
      ports = λ i k j stands at.
          let (q, leads, same) = side.imports i k stands in
          let both : ImportEnd q k ≡ ImportEnd j k = sym leads ∙ at in
          let one : q ≡ j = cc both in
          ap (slice_get r.imports) (sym one) ∙ sym same;
      joined = λ i k stands.
          let (a, named) = stands_place p side.cut.right (ImportEnd i k) stands in
          place_stands r (f.outer (ImportEnd i k)) (lies_at f a) (place_there f r p side.cut (ImportEnd i k) a named);
      heard = heard;
    }

module _
    (d : ℕ) (f g : Cut) (r p q : Plan) (is : IsParallel d f g r p q) (left_ports : HasPorts r f p) (right_ports : HasPorts r g q) where
  pub left_done : IsDone p.outcome
  left_done = subst IsDone (sym is.left.outcome) tt

  pub right_done : IsDone q.outcome
  right_done = subst IsDone (sym is.right.outcome) tt

  -- which region has an end of an import of the whole
  pub data Owner (k n : ℕ) : Type 0 where
    on_left : (i : ℕ) → Meets r f p i n → f.outer (ImportEnd i n) ≡ ImportEnd k n → Owner k n
    on_right : (i : ℕ) → Meets r g q i n → g.outer (ImportEnd i n) ≡ ImportEnd k n → Owner k n

  pub record Shared (past lefts rights : List Pass) : Type 0 where
    pub left : AreFollowed r f p lefts past
    pub right : AreFollowed r g q rights past
    pub only : (k n : ℕ) → is_open past (ImportEnd k n) ≡ true → Owner k n

  pub shared_first : Shared [] [] []
  shared_first =
      record {
        left = record { same = λ i h k meets at. refl; met = λ i h up. absurd (cc up) };
        right = record { same = λ i h k meets at. refl; met = λ i h up. absurd (cc up) };
        only = λ k n up. absurd (cc up);
      }

  -- no import of the whole is of both
  pub not_both : (k i j n m : ℕ) → Meets r f p i n → f.outer (ImportEnd i n) ≡ ImportEnd k n → Meets r g q j m → g.outer (ImportEnd j m) ≡ ImportEnd k m → ⊥
  not_both k i j n m first at second also =
      let (x, there) = own_import r f p left_ports i n first in
      let other = sym (met_import r g q right_ports j m k second also) ∙ (met_import r f p left_ports i n k first at ∙ there) in
      is.names x x (contains_at p.imports i x there) (contains_at q.imports j x other) refl

  -- what passes an import
  only_after : (k h : ℕ) (way : Direction) (past : List Pass) → Owner k h → ((m n : ℕ) → is_open past (ImportEnd m n) ≡ true → Owner m n)
      → (m n : ℕ) → is_open (pass (ImportEnd k h) way ∷ past) (ImportEnd m n) ≡ true → Owner m n
  only_after k h way past owner only m n up = by_test (same_end (ImportEnd k h) (ImportEnd m n)) refl up
    where
      by_test : (b : Bool) → same_end (ImportEnd k h) (ImportEnd m n) ≡ b → (if b then is_request way else is_open past (ImportEnd m n)) ≡ true → Owner m n
      by_test true t up =
          let both : ImportEnd k h ≡ ImportEnd m n = same_is (ImportEnd k h) (ImportEnd m n) t in
          let import : k ≡ m = cc both in
          let shake : h ≡ n = cc both in
          subst (λ (y : ℕ). Owner y n) import (subst (λ (y : ℕ). Owner k y) shake owner)
      by_test false t up = only m n up

  pub left_pass : (past lefts rights : List Pass) → Shared past lefts rights → (i h k : ℕ) → Meets r f p i h → f.outer (ImportEnd i h) ≡ ImportEnd k h → (way : Direction)
      → Shared (pass (ImportEnd k h) way ∷ past) (pass (ImportEnd i h) way ∷ lefts) rights
  left_pass past lefts rights shared i h k meets at way =
      record {
        left = followed_pass r f p left_ports lefts past shared.left i h k meets at way;
        right =
            record {
              same = λ j n b also at_b.
                  shared.right.same j n b also at_b ∙ sym (open_otherwise (ImportEnd k h) (ImportEnd b n) way past (apart j n b also at_b));
              met = shared.right.met;
            };
        only = only_after k h way past (on_left i meets at) shared.only;
      }
    where
      apart : (j n b : ℕ) → Meets r g q j n → g.outer (ImportEnd j n) ≡ ImportEnd b n → ImportEnd k h ≡ ImportEnd b n → ⊥
      apart j n b also at_b same =
          let import : k ≡ b = cc same in
          not_both k i j h n meets at also (at_b ∙ ap (λ (y : ℕ). ImportEnd y n) (sym import))

  pub right_pass : (past lefts rights : List Pass) → Shared past lefts rights → (i h k : ℕ) → Meets r g q i h → g.outer (ImportEnd i h) ≡ ImportEnd k h → (way : Direction)
      → Shared (pass (ImportEnd k h) way ∷ past) lefts (pass (ImportEnd i h) way ∷ rights)
  right_pass past lefts rights shared i h k meets at way =
      record {
        left =
            record {
              same = λ j n b also at_b.
                  shared.left.same j n b also at_b ∙ sym (open_otherwise (ImportEnd k h) (ImportEnd b n) way past (apart j n b also at_b));
              met = shared.left.met;
            };
        right = followed_pass r g q right_ports rights past shared.right i h k meets at way;
        only = only_after k h way past (on_right i meets at) shared.only;
      }
    where
      apart : (j n b : ℕ) → Meets r f p j n → f.outer (ImportEnd j n) ≡ ImportEnd b n → ImportEnd k h ≡ ImportEnd b n → ⊥
      apart j n b also at_b same =
          let import : k ≡ b = cc same in
          not_both k j i n h also (at_b ∙ ap (λ (y : ℕ). ImportEnd y n) (sym import)) meets at

  -- turns
  pub only_left : (past lefts rights : List Pass) → Shared past lefts rights → (i h k : ℕ) → Meets r f p i h → f.outer (ImportEnd i h) ≡ ImportEnd k h → (n : ℕ)
      → is_open past (ImportEnd k n) ≡ true → (j : ℕ) × Meets r f p j n × (f.outer (ImportEnd j n) ≡ ImportEnd k n)
  only_left past lefts rights shared i h k meets at n up =
      elim (shared.only k n up) [
        | on_left j here at_j ↦ (j, here, at_j)
        | on_right j here at_j ↦ absurd (not_both k i j h n meets at here at_j)
      ]

  pub only_right : (past lefts rights : List Pass) → Shared past lefts rights → (i h k : ℕ) → Meets r g q i h → g.outer (ImportEnd i h) ≡ ImportEnd k h → (n : ℕ)
      → is_open past (ImportEnd k n) ≡ true → (j : ℕ) × Meets r g q j n × (g.outer (ImportEnd j n) ≡ ImportEnd k n)
  only_right past lefts rights shared i h k meets at n up =
      elim (shared.only k n up) [
        | on_left j here at_j ↦ absurd (not_both k j i n h here at_j meets at)
        | on_right j here at_j ↦ (j, here, at_j)
      ]

  pub left_turned : (past lefts rights : List Pass) → Shared past lefts rights → is_open lefts (ResultEnd 0) ≡ true → Turned r past → Turned p lefts
  left_turned past lefts rights shared =
      region_turned r f p left_ports left_done lefts past shared.left (λ i h k meets at n up. only_left past lefts rights shared i h k meets at n up)

  pub right_turned : (past lefts rights : List Pass) → Shared past lefts rights → is_open rights (ResultEnd 0) ≡ true → Turned r past → Turned q rights
  right_turned past lefts rights shared =
      region_turned r g q right_ports right_done rights past shared.right (λ i h k meets at n up. only_right past lefts rights shared i h k meets at n up)

  not_rest : (ph : Phase) → left_runs ph ≡ true → ph ≡ Rest → ⊥
  not_rest ph runs rest = let clash : true ≡ false = sym runs ∙ ap left_runs rest in cc clash

  not_rest_either : (ph : Phase) → right_runs ph ≡ true → ph ≡ Rest → ⊥
  not_rest_either ph runs rest = let clash : true ≡ false = sym runs ∙ ap right_runs rest in cc clash

  pub whole_turned : (past lefts rights : List Pass) (s : Tokens) → Driven d past lefts rights s → Shared past lefts rights → Turned p lefts → Turned q rights → Turned r past
  whole_turned past lefts rights s driven shared left_kept right_kept =
      imports_turned r (subst IsDone (sym is.outcome) tt) past (λ k h x at up. kept k h x at up (shared.only k h up)) (λ k h up. led k h up (shared.only k h up))
    where
      kept : (k h : ℕ) (x : Imported) → slice_get r.imports k ≡ Some x → is_open past (ImportEnd k h) ≡ true → Owner k h → KeepsTurnsOf x.ty (λ n. is_open past (ImportEnd k n))
      kept k h x at up (on_left i meets leads) =
          subst (KeepsTurnsOf x.ty)
          (λ l n. alike r f p left_ports lefts past shared.left i h k meets leads (λ n up. only_left past lefts rights shared i h k meets leads n up) n l)
          (import_kept p lefts left_kept i x (sym (met_import r f p left_ports i h k meets leads) ∙ at))
      kept k h x at up (on_right i meets leads) =
          subst (KeepsTurnsOf x.ty)
          (λ l n. alike r g q right_ports rights past shared.right i h k meets leads (λ n up. only_right past lefts rights shared i h k meets leads n up) n l)
          (import_kept q rights right_kept i x (sym (met_import r g q right_ports i h k meets leads) ∙ at))

      led : (k h : ℕ) → is_open past (ImportEnd k h) ≡ true → Owner k h → is_open past (ResultEnd 0) ≡ true
      led k h up (on_left i meets leads) =
          let (c, there) = met_contact r f p left_ports i h meets in
          let runs = sym driven.left_result ∙ import_result p left_done lefts left_kept i h c there (shared.left.same i h k meets leads ∙ up) in
          (when_working (is_open past (ResultEnd 0)) (s.state d).phase (gate s Request) (gate s Answer) driven.stage (not_rest (s.state d).phase runs)).0
      led k h up (on_right i meets leads) =
          let (c, there) = met_contact r g q right_ports i h meets in
          let runs = sym driven.right_result ∙ import_result q right_done rights right_kept i h c there (shared.right.same i h k meets leads ∙ up) in
          (when_working (is_open past (ResultEnd 0)) (s.state d).phase (gate s Request) (gate s Answer) driven.stage (not_rest_either (s.state d).phase runs)).0

  pub left_busy : (past lefts rights : List Pass) → Shared past lefts rights → Turned p lefts → (i h k : ℕ) (c : Contact) → Meets r f p i h → f.outer (ImportEnd i h) ≡ ImportEnd k h
      → contact_at r (ImportEnd k h) ≡ Some c → KeepsTurns r past (pass (ImportEnd k h) (way_in (contact_at r (ImportEnd k h)))) → is_open lefts (ResultEnd 0) ≡ true
  left_busy past lefts rights shared kept i h k c meets at there turn =
      let (n, up, which) = open_before r past k h c there turn in
      let (j, here, at_j) = only_left past lefts rights shared i h k meets at n up in
      let (x, own) = met_contact r f p left_ports j n here in
      import_result p left_done lefts kept j n x own (shared.left.same j n k here at_j ∙ up)

  pub right_busy : (past lefts rights : List Pass) → Shared past lefts rights → Turned q rights → (i h k : ℕ) (c : Contact) → Meets r g q i h → g.outer (ImportEnd i h) ≡ ImportEnd k h
      → contact_at r (ImportEnd k h) ≡ Some c → KeepsTurns r past (pass (ImportEnd k h) (way_in (contact_at r (ImportEnd k h)))) → is_open rights (ResultEnd 0) ≡ true
  right_busy past lefts rights shared kept i h k c meets at there turn =
      let (n, up, which) = open_before r past k h c there turn in
      let (j, here, at_j) = only_right past lefts rights shared i h k meets at n up in
      let (x, own) = met_contact r g q right_ports j n here in
      import_result q right_done rights kept j n x own (shared.right.same j n k here at_j ∙ up)

  module _ (literals : All LiteralFits r.parts) where
    local_left : (x y : Element) (past lefts rights : List Pass) → Local f r p x y → Shared past lefts rights → Shared (after r x past) (after p y lefts) rights
    local_left x y past lefts rights (fires i j k number) shared = shared
    local_left x y past lefts rights (puts_out i j k v stands leads slices) shared =
        subst (λ o. Shared (pass (ImportEnd j k) (way_out (contact_at r (ImportEnd j k))) ∷ past) (pass (ImportEnd i k) (way_out o) ∷ lefts) rights)
        (import_contact (hung_left d f g r p q is) i j k stands leads)
        (left_pass past lefts rights shared i k j (met_joined r f p i k j stands leads) leads (way_out (contact_at r (ImportEnd j k))))
    local_left x y past lefts rights (takes_in i j k v stands leads slices) shared =
        subst (λ o. Shared (pass (ImportEnd j k) (way_in (contact_at r (ImportEnd j k))) ∷ past) (pass (ImportEnd i k) (way_in o) ∷ lefts) rights)
        (import_contact (hung_left d f g r p q is) i j k stands leads)
        (left_pass past lefts rights shared i k j (met_joined r f p i k j stands leads) leads (way_in (contact_at r (ImportEnd j k))))

    local_right : (x y : Element) (past lefts rights : List Pass) → Local g r q x y → Shared past lefts rights → Shared (after r x past) lefts (after q y rights)
    local_right x y past lefts rights (fires i j k number) shared = shared
    local_right x y past lefts rights (puts_out i j k v stands leads slices) shared =
        subst (λ o. Shared (pass (ImportEnd j k) (way_out (contact_at r (ImportEnd j k))) ∷ past) lefts (pass (ImportEnd i k) (way_out o) ∷ rights))
        (import_contact (hung_right d f g r p q is) i j k stands leads)
        (right_pass past lefts rights shared i k j (met_joined r g q i k j stands leads) leads (way_out (contact_at r (ImportEnd j k))))
    local_right x y past lefts rights (takes_in i j k v stands leads slices) shared =
        subst (λ o. Shared (pass (ImportEnd j k) (way_in (contact_at r (ImportEnd j k))) ∷ past) lefts (pass (ImportEnd i k) (way_in o) ∷ rights))
        (import_contact (hung_right d f g r p q is) i j k stands leads)
        (right_pass past lefts rights shared i k j (met_joined r g q i k j stands leads) leads (way_in (contact_at r (ImportEnd j k))))

    same_shared : (past lefts rights before own other : List Pass) → Shared before own other
        → ((k h : ℕ) → is_open past (ImportEnd k h) ≡ is_open before (ImportEnd k h)) → ((k h : ℕ) → is_open lefts (ImportEnd k h) ≡ is_open own (ImportEnd k h))
        → ((k h : ℕ) → is_open rights (ImportEnd k h) ≡ is_open other (ImportEnd k h)) → Shared past lefts rights
    same_shared past lefts rights before own other shared whole first second =
        record {
          left =
              record {
                same = λ i h k meets at. first i h ∙ (shared.left.same i h k meets at ∙ sym (whole k h));
                met = λ i h up. shared.left.met i h (sym (first i h) ∙ up);
              };
          right =
              record {
                same = λ i h k meets at. second i h ∙ (shared.right.same i h k meets at ∙ sym (whole k h));
                met = λ i h up. shared.right.met i h (sym (second i h) ∙ up);
              };
          only = λ k h up. shared.only k h (sym (whole k h) ∙ up);
        }

    pub shared_step : (x : Element) (s t : Tokens) (z : Step d f g r p q x s t) → IsSeen d f g r p q x s t z → (past lefts rights : List Pass) → Shared past lefts rights
        → Shared (after r x past) (past_all p (left_seen d f g r p q is literals x s t z) lefts) (past_all q (right_seen d f g r p q is literals x s t z) rights)
    shared_step x s t (of_left x' y s' t' local sees unseen same) seen past lefts rights shared = local_left x' y past lefts rights local shared
    shared_step x s t (of_right x' y s' t' local sees unseen same) seen past lefts rights shared = local_right x' y past lefts rights local shared
    shared_step x s t (asked v s' t' small left right state ask ans) seen past lefts rights shared =
        same_shared (pass (ResultEnd 0) (way_in (contact_at r (ResultEnd 0))) ∷ past) lefts rights past lefts rights shared (λ k h. refl) (λ k h. refl) (λ k h. refl)
    shared_step x s t (told v s' t' left right state ans none ask) seen past lefts rights shared =
        same_shared (pass (ResultEnd 0) (way_out (contact_at r (ResultEnd 0))) ∷ past) lefts rights past lefts rights shared (λ k h. refl) (λ k h. refl) (λ k h. refl)
    shared_step x s t (starts v s' t' left right rest ask both none ans) seen past lefts rights shared =
        same_shared past (pass (ResultEnd 0) (way_in (contact_at p (ResultEnd 0))) ∷ lefts) (pass (ResultEnd 0) (way_in (contact_at q (ResultEnd 0))) ∷ rights)
        past lefts rights shared (λ k h. refl) (λ k h. refl) (λ k h. refl)
    shared_step x s t (left_ends v s' t' left right both next gates) seen past lefts rights shared =
        same_shared past (pass (ResultEnd 0) (way_out (contact_at p (ResultEnd 0))) ∷ lefts) rights past lefts rights shared (λ k h. refl) (λ k h. refl) (λ k h. refl)
    shared_step x s t (right_ends v s' t' right left both next gates) seen past lefts rights shared =
        same_shared past lefts (pass (ResultEnd 0) (way_out (contact_at q (ResultEnd 0))) ∷ rights) past lefts rights shared (λ k h. refl) (λ k h. refl) (λ k h. refl)
    shared_step x s t (left_ends_all v s' t' left right phase rest ask ans) seen past lefts rights shared =
        same_shared past (pass (ResultEnd 0) (way_out (contact_at p (ResultEnd 0))) ∷ lefts) rights past lefts rights shared (λ k h. refl) (λ k h. refl) (λ k h. refl)
    shared_step x s t (right_ends_all v s' t' right left phase rest ask ans) seen past lefts rights shared =
        same_shared past lefts (pass (ResultEnd 0) (way_out (contact_at q (ResultEnd 0))) ∷ rights) past lefts rights shared (λ k h. refl) (λ k h. refl) (λ k h. refl)
    shared_step x s t (lost j k v s' t' c there not_left not_right left right same) seen past lefts rights shared = absurd seen

    -- inputs of the regions keep turns
    pub left_input : (past lefts rights : List Pass) → Shared past lefts rights → Turned p lefts → (i h k : ℕ) → Meets r f p i h → f.outer (ImportEnd i h) ≡ ImportEnd k h
        → KeepsTurns r past (pass (ImportEnd k h) (way_in (contact_at r (ImportEnd k h)))) → KeepsTurns p lefts (pass (ImportEnd i h) (way_in (contact_at p (ImportEnd i h))))
    left_input past lefts rights shared kept i h k meets at turn =
        let (c, own) = met_contact r f p left_ports i h meets in
        let contacts = met_contacts r f p left_ports i h (ImportEnd k h) meets at in
        let way = way_in (contact_at r (ImportEnd k h)) in
        let busy = left_busy past lefts rights shared kept i h k c meets at (contacts ∙ own) turn in
        let next = left_pass past lefts rights shared i h k meets at way in
        subst (λ o. KeepsTurns p lefts (pass (ImportEnd i h) (way_in o))) contacts (
          comes_so past lefts (ImportEnd k h) (ImportEnd i h) way (shared.left.same i h k meets at) turn.0,
          left_turned (pass (ImportEnd k h) way ∷ past) (pass (ImportEnd i h) way ∷ lefts) rights next busy turn.1,
        )

    pub right_input : (past lefts rights : List Pass) → Shared past lefts rights → Turned q rights → (i h k : ℕ) → Meets r g q i h → g.outer (ImportEnd i h) ≡ ImportEnd k h
        → KeepsTurns r past (pass (ImportEnd k h) (way_in (contact_at r (ImportEnd k h)))) → KeepsTurns q rights (pass (ImportEnd i h) (way_in (contact_at q (ImportEnd i h))))
    right_input past lefts rights shared kept i h k meets at turn =
        let (c, own) = met_contact r g q right_ports i h meets in
        let contacts = met_contacts r g q right_ports i h (ImportEnd k h) meets at in
        let way = way_in (contact_at r (ImportEnd k h)) in
        let busy = right_busy past lefts rights shared kept i h k c meets at (contacts ∙ own) turn in
        let next = right_pass past lefts rights shared i h k meets at way in
        subst (λ o. KeepsTurns q rights (pass (ImportEnd i h) (way_in o))) contacts (
          comes_so past rights (ImportEnd k h) (ImportEnd i h) way (shared.right.same i h k meets at) turn.0,
          right_turned (pass (ImportEnd k h) way ∷ past) lefts (pass (ImportEnd i h) way ∷ rights) next busy turn.1,
        )

    left_closed : (past lefts rights : List Pass) → Shared past lefts rights → Turned p lefts → is_open lefts (ResultEnd 0) ≡ false → (i h : ℕ) → is_open lefts (ImportEnd i h) ≡ false
    left_closed past lefts rights shared kept shut i h = by_test (is_open lefts (ImportEnd i h)) refl
      where
        by_test : (b : Bool) → is_open lefts (ImportEnd i h) ≡ b → b ≡ false
        by_test false t = refl
        by_test true up =
            let (c, own) = met_contact r f p left_ports i h (shared.left.met i h up) in sym (import_result p left_done lefts kept i h c own up) ∙ shut

    right_closed : (past lefts rights : List Pass) → Shared past lefts rights → Turned q rights → is_open rights (ResultEnd 0) ≡ false → (i h : ℕ) → is_open rights (ImportEnd i h) ≡ false
    right_closed past lefts rights shared kept shut i h = by_test (is_open rights (ImportEnd i h)) refl
      where
        by_test : (b : Bool) → is_open rights (ImportEnd i h) ≡ b → b ≡ false
        by_test false t = refl
        by_test true up =
            let (c, own) = met_contact r g q right_ports i h (shared.right.met i h up) in sym (import_result q right_done rights kept i h c own up) ∙ shut

    left_begins : (past lefts rights : List Pass) → Shared past lefts rights → Turned p lefts → is_open lefts (ResultEnd 0) ≡ false
        → KeepsTurns p lefts (pass (ResultEnd 0) (way_in (contact_at p (ResultEnd 0))))
    left_begins past lefts rights shared kept shut =
        subst (λ w. KeepsTurns p lefts (pass (ResultEnd 0) w)) (sym (way_asked d f g r p q is literals p is.left.outcome))
        (shut, closed_turned p left_done (pass (ResultEnd 0) Request ∷ lefts) (λ i h. left_closed past lefts rights shared kept shut i h))

    right_begins : (past lefts rights : List Pass) → Shared past lefts rights → Turned q rights → is_open rights (ResultEnd 0) ≡ false
        → KeepsTurns q rights (pass (ResultEnd 0) (way_in (contact_at q (ResultEnd 0))))
    right_begins past lefts rights shared kept shut =
        subst (λ w. KeepsTurns q rights (pass (ResultEnd 0) w)) (sym (way_asked d f g r p q is literals q is.right.outcome))
        (shut, closed_turned q right_done (pass (ResultEnd 0) Request ∷ rights) (λ i h. right_closed past lefts rights shared kept shut i h))

    local_left_inputs : (x y : Element) (past lefts rights : List Pass) → Local f r p x y → Shared past lefts rights → Turned p lefts → InputTurns r past x
        → InputsKeepTurns p lefts (y ∷ [])
    local_left_inputs x y past lefts rights (fires i j k number) shared kept turn = tt
    local_left_inputs x y past lefts rights (puts_out i j k v stands leads slices) shared kept turn = tt
    local_left_inputs x y past lefts rights (takes_in i j k v stands leads slices) shared kept turn =
        (left_input past lefts rights shared kept i k j (met_joined r f p i k j stands leads) leads turn, tt)

    local_right_inputs : (x y : Element) (past lefts rights : List Pass) → Local g r q x y → Shared past lefts rights → Turned q rights → InputTurns r past x
        → InputsKeepTurns q rights (y ∷ [])
    local_right_inputs x y past lefts rights (fires i j k number) shared kept turn = tt
    local_right_inputs x y past lefts rights (puts_out i j k v stands leads slices) shared kept turn = tt
    local_right_inputs x y past lefts rights (takes_in i j k v stands leads slices) shared kept turn =
        (right_input past lefts rights shared kept i k j (met_joined r g q i k j stands leads) leads turn, tt)

    pub seen_inputs : (x : Element) (s t : Tokens) (z : Step d f g r p q x s t) → (past lefts rights : List Pass) → Driven d past lefts rights s → Shared past lefts rights
        → Turned p lefts → Turned q rights → InputTurns r past x
        → InputsKeepTurns p lefts (left_seen d f g r p q is literals x s t z) × InputsKeepTurns q rights (right_seen d f g r p q is literals x s t z)
    seen_inputs x s t (of_left x' y s' t' local sees unseen same) past lefts rights driven shared left_kept right_kept turn =
        (local_left_inputs x' y past lefts rights local shared left_kept turn, tt)
    seen_inputs x s t (of_right x' y s' t' local sees unseen same) past lefts rights driven shared left_kept right_kept turn =
        (tt, local_right_inputs x' y past lefts rights local shared right_kept turn)
    seen_inputs x s t (asked v s' t' small left right state ask ans) past lefts rights driven shared left_kept right_kept turn = (tt, tt)
    seen_inputs x s t (told v s' t' left right state ans none ask) past lefts rights driven shared left_kept right_kept turn = (tt, tt)
    seen_inputs x s t (starts v s' t' left right rest ask both none ans) past lefts rights driven shared left_kept right_kept turn = (
      (left_begins past lefts rights shared left_kept (driven.left_result ∙ ap left_runs rest), tt),
      (right_begins past lefts rights shared right_kept (driven.right_result ∙ ap right_runs rest), tt),
    )
    seen_inputs x s t (left_ends v s' t' left right both next gates) past lefts rights driven shared left_kept right_kept turn = (tt, tt)
    seen_inputs x s t (right_ends v s' t' right left both next gates) past lefts rights driven shared left_kept right_kept turn = (tt, tt)
    seen_inputs x s t (left_ends_all v s' t' left right phase rest ask ans) past lefts rights driven shared left_kept right_kept turn = (tt, tt)
    seen_inputs x s t (right_ends_all v s' t' right left phase rest ask ans) past lefts rights driven shared left_kept right_kept turn = (tt, tt)
    seen_inputs x s t (lost j k v s' t' c there not_left not_right left right same) past lefts rights driven shared left_kept right_kept turn = (tt, tt)
