-- The Share's source puts nothing at the other side: it would take that of its caller, whose handshakes of that side stand in no joint.
use Rattle.std.specs.Prelude.{◌≡◌, ℕ, suc, ◌+◌, ◌*◌, ◌<◌, Bool, true, false, ◌&&◌, List, [], ◌∷◌, ◌⊎◌, length, Option, Some, None, slice_get, nat_eq, Contains, if◌then◌else◌}
use Rattle.std.proofs.Common.{refl, sym, ◌∙◌, ap, subst, arith, inl, inr}
use Rattle.std.proofs.lemmas.Option.{slice_get_within}
use Rattle.std.proofs.lemmas.Bool.{false_from_ne_true}
use Rattle.gos_types.specs.declared.shakes.Role.{Role}
use Rattle.gos_types.specs.declared.shakes.Role.TheVariants.{Serve, Ask}
use Rattle.gos_types.specs.Types.{Type'}
use Rattle.gos_types.specs.Events.{Direction}
use Rattle.gos_plan.specs.Kinds.{Part, Share, Contact, asks, serves, contacts_of, part_contacts}
use Rattle.gos_plan.specs.Firing.{Slot, Token, Row, shared_rows, firing}
use Rattle.gos_plan.specs.Plans.{End, PartEnd, ImportEnd, ResultEnd, Joint, Plan, contact_at, contacts_of_part, same_end}
use Rattle.gos_plan.specs.Tokens.{Tokens, Element, Fire, Out, In, Passes, places_of, same_way, with_held, with_state, with_puts, with_token, token_at, end_of, way_of, shake_of, way_taken, way_put, firing_of, Does, Runs}
use Rattle.gos_plan.proofs.JointLemmas.{listed, same_itself, same_is, found, fits, contained, joined, which_end}
use Rattle.gos_plan.proofs.RowLemmas.{EachRow}
use Rattle.gos_plan.proofs.AskingLemmas.{PutsInRole, row_roles}
use Rattle.gos_plan.proofs.ShareTableLemmas.{share_row}
use Rattle.gos_plan.proofs.HeldLemmas.{nothing_there}
use Rattle.gos_plan.proofs.TurnLemmas.{way_to_put}
use Rattle.gos_plan.proofs.ElementLemmas.{firing_part}
use Rattle.gos_plan.proofs.CountLemmas.{port_apart}
use Rattle.gos_supplies.proofs.turns.StandLemmas.{placed_apart}
use Rattle.gos_realises.specs.realises.Regular.{count}
use Rattle.gos_realises.specs.realises.Links.{IsJoined}
use Rattle.gos_realises.specs.realises.Wirings.{side}
use Rattle.gos_joining.specs.webs.Webs.{joint}
use Rattle.gos_sharing.specs.sharing.Sharing.{caller_end}
use Rattle.gos_sharing.specs.buffers.Buffering.{end_behind}
use Rattle.gos_sharing.specs.behind.Behind.{outer_joint, IsBehind}
use Rattle.gos_sharing.proofs.behind.EndLemmas.{Owned, owned_contact, share}
use Rattle.gos_sharing.proofs.parts_of_types.RowLemmas.{column}
use Rattle.gos_sharing.proofs.pair_types.HalfLemmas.{Half}
use Rattle.gos_sharing.proofs.pair_types.SideLemmas.{up, parts_so, result_there, joint_up}

-- what is put at the source's handshake h was taken at handshake h of a caller
abbrev LowFrom : ℕ → ℕ → List Token → Type 0
LowFrom n takes [] = Unit {0}
LowFrom n takes (x ∷ ts) = (shake_of x.slot < n → (b : ℕ) × (takes ≡ n + b * n + shake_of x.slot)) × LowFrom n takes ts

abbrev RowLow : ℕ → Row → Type 0
RowLow n r = (v : ℕ) → LowFrom n (shake_of r.takes) (r.puts v)

low_shared : (n j b : ℕ) (role : Role) → EachRow (RowLow n) (shared_rows role n j b)
low_shared n j b Serve = (
  (λ v. ((λ low. (0, omega arith)), tt)),
  ((λ v. ((λ low. (1, omega arith)), tt)), ((λ v. ((λ low. absurd (omega (arith, low))), tt)), tt)),
)
low_shared n j b Ask = ((λ v. ((λ low. absurd (omega (arith, low))), tt)), ((λ v. ((λ low. (b, omega arith)), tt)), tt))

-- tokens that are put elsewhere
abbrev NotAt : ℕ → End → List Token → Type 0
NotAt i e [] = Unit {0}
NotAt i e (x ∷ ts) = (same_end (end_of i x.slot) e ≡ false) × NotAt i e ts

other_part : (i k h : ℕ) → nat_eq i k ≡ false → (ts : List Token) → NotAt i (PartEnd k h) ts
other_part i k h apart [] = tt
other_part i k h apart (x ∷ ts) = (ap (λ (b : Bool). b && nat_eq (shake_of x.slot) h) apart, other_part i k h apart ts)

own_part : (i h n takes : ℕ) → h < n → ((b : ℕ) → takes ≡ n + b * n + h → ⊥) → (ts : List Token) → LowFrom n takes ts → NotAt i (PartEnd i h) ts
own_part i h n takes low never [] from = tt
own_part i h n takes low never (x ∷ ts) (first, rest) = (
  false_from_ne_true (same_end (end_of i x.slot) (PartEnd i h)) (λ same. at_h (same_is (end_of i x.slot) (PartEnd i h) same)),
  own_part i h n takes low never ts rest,
)
  where
    at_h : PartEnd i (shake_of x.slot) ≡ PartEnd i h → ⊥
    at_h same =
        let number : shake_of x.slot ≡ h = cc same in
        let (b, is) = first (omega (arith, number, low)) in never b (is ∙ ap (λ (g : ℕ). n + b * n + g) number)

-- a place that is emptied stays empty
stays_none : (x : Plan) (e a : End) (way w : Direction) (k : Tokens) → k.in_place w a ≡ None → (with_token x e way None k).in_place w a ≡ None
stays_none x e a way w k none = by_place (places_of x e)
  where
    by_test : (b : Bool) → (if b then None else k.in_place w a) ≡ None
    by_test true = refl
    by_test false = none

    by_place : (f : Option End) → (with_held way f None k).in_place w a ≡ None
    by_place None = none
    by_place (Some d) = by_test (same_way w way && same_end a d)

same_not_false : (d e : End) → d ≡ e → same_end d e ≡ false → ⊥
same_not_false d e same apart =
    let clash : true ≡ false = sym (same_itself e) ∙ (ap (λ (y : End). same_end y e) (sym same) ∙ apart) in cc clash

module _ (t s o : Type') (n m : ℕ) (half : Half t s o n m) (c : ℕ) (p R : Plan) (behind : IsBehind (length p.parts) t c R p) (x : Plan) (of_x : IsJoined (side n s R) x) where
  -- no caller's handshake of the other side stands in a joint
  module _ (l : ℕ) (low : l < count o) (fits_t : m + l < count t) where
    not_result : (e : End) (k : Contact) → contact_at x e ≡ Some k → up n e ≡ ResultEnd (m + l) → ⊥
    not_result (PartEnd i h) k there same = cc same
    not_result (ImportEnd i h) k there same = cc same
    not_result (ResultEnd h) k there same =
        let sum : n + h ≡ m + l = cc same in
        let (d, at_d) = result_there s n R x of_x h k there in half.apart h l (slice_get_within (contacts_of s) h d at_d) low sum

    not_inner : (b : ℕ) (d : End) → Owned t p d → PartEnd (length p.parts) (count t + b * count t + (m + l)) ≡ end_behind (length p.parts) d → ⊥
    not_inner b (PartEnd i h) own same = let e : length p.parts ≡ i = cc same in omega (arith, own, e)
    not_inner b (ImportEnd i h) own same = cc same
    not_inner b (ResultEnd h) own same = let e : count t + b * count t + (m + l) ≡ h = cc same in omega (arith, own, e)

    one_column : (b j : ℕ) → j < count t → PartEnd (length p.parts) (count t + b * count t + (m + l)) ≡ caller_end (length p.parts) t c j → j ≡ m + l
    one_column b j small same =
        let numbers : count t + b * count t + (m + l) ≡ count t + c * count t + j = cc same in
        sym (column (count t) (m + l) j (suc b) (suc c) fits_t small (omega (arith, numbers))).1

    no_joint : (b : ℕ) (a d : End) → Contains x.joints (joint a d)
        → (PartEnd (length p.parts) (count t + b * count t + (m + l)) ≡ a) ⊎ (PartEnd (length p.parts) (count t + b * count t + (m + l)) ≡ d) → ⊥
    no_joint b a d has which = of_joint ((behind.joints (up n a) (up n d)).0 (joint_up s n R x of_x a d has))
      where
        fit : (q : ℕ) × (w : ℕ) × (contact_at x a ≡ Some (asks q w)) × (contact_at x d ≡ Some (serves q w))
        fit = fits x [] x.joints (joint a d) of_x.joining.right (contained x.joints (joint a d) has)

        of_outer : (j : ℕ) → j < count t → (role : Role) → joint (up n a) (up n d) ≡ outer_joint (length p.parts) t c j role
            → (PartEnd (length p.parts) (count t + b * count t + (m + l)) ≡ a) ⊎ (PartEnd (length p.parts) (count t + b * count t + (m + l)) ≡ d) → ⊥
        of_outer j small Serve same (inl one) = let clash : PartEnd (length p.parts) (count t + b * count t + (m + l)) ≡ ResultEnd j = ap (up n) one ∙ ap (λ (y : Joint). y.asking) same in cc clash
        of_outer j small Serve same (inr one) =
            let is_j = one_column b j small (ap (up n) one ∙ ap (λ (y : Joint). y.serving) same) in
            not_result a (asks fit.0 fit.1) fit.2 (ap (λ (y : Joint). y.asking) same ∙ ap ResultEnd is_j)
        of_outer j small Ask same (inl one) =
            let is_j = one_column b j small (ap (up n) one ∙ ap (λ (y : Joint). y.asking) same) in
            not_result d (serves fit.0 fit.1) fit.3 (ap (λ (y : Joint). y.serving) same ∙ ap ResultEnd is_j)
        of_outer j small Ask same (inr one) = let clash : PartEnd (length p.parts) (count t + b * count t + (m + l)) ≡ ResultEnd j = ap (up n) one ∙ ap (λ (y : Joint). y.serving) same in cc clash

        of_joint : ((e : End) × (g : End) × Contains p.joints (joint e g) × (up n a ≡ end_behind (length p.parts) e) × (up n d ≡ end_behind (length p.parts) g))
            ⊎ ((j : ℕ) × (k : Contact) × (slice_get (contacts_of t) j ≡ Some k) × (joint (up n a) (up n d) ≡ outer_joint (length p.parts) t c j k.role)) → ⊥
        of_joint (inl (e, g, in_p, at_a, at_d)) =
            let own = fits p [] p.joints (joint e g) behind.also_right (contained p.joints (joint e g) in_p) in
            elim which [
              | inl one ↦ not_inner b e (owned_contact (length p.parts) t c R p behind.frame e (asks own.0 own.1) own.2) (ap (up n) one ∙ at_a)
              | inr one ↦ not_inner b g (owned_contact (length p.parts) t c R p behind.frame g (serves own.0 own.1) own.3) (ap (up n) one ∙ at_d)
            ]
        of_joint (inr (j, k, at_j, same)) = of_outer j (slice_get_within (contacts_of t) j k at_j) k.role same which

    no_caller : (b h : ℕ) → h ≡ count t + b * count t + (m + l) → (way : Direction) (v : ℕ) (k : Tokens) → token_at x k (PartEnd (length p.parts) h) way ≡ Some v → ⊥
    no_caller b h is way v k lies = by_place (places_of x (PartEnd (length p.parts) h)) refl
      where
        by_place : (f : Option End) → places_of x (PartEnd (length p.parts) h) ≡ f → ⊥
        by_place None none = nothing_there x (PartEnd (length p.parts) h) way v k lies none
        by_place (Some a) placed =
            let at = found x.joints (PartEnd (length p.parts) h) a placed in
            no_joint b at.joint.asking at.joint.serving (listed x.joints at.joint at.is_in)
            (elim (which_end (PartEnd (length p.parts) h) at.joint at.stands) [
              | inl one ↦ inl (ap (PartEnd (length p.parts)) (sym is) ∙ one)
              | inr one ↦ inr (ap (PartEnd (length p.parts)) (sym is) ∙ one)
            ])

    -- so nothing comes to a joint of the source there
    module _ (a : End) (way : Direction)
        (only : (e : End) (d : Contact) → contact_at x e ≡ Some d → way ≡ way_put d.role → places_of x e ≡ Some a → e ≡ PartEnd (length p.parts) (m + l)) where
      abbrev E : End
      E = PartEnd (length p.parts) (m + l)

      not_put : (i : ℕ) (slot : Slot) (v : ℕ) (row : Row) (k : Tokens) → token_at x k (end_of i slot) (way_of slot) ≡ Some v
          → firing_of (slice_get x.parts i) (k.state i) slot ≡ Some row → NotAt i (PartEnd (length p.parts) (m + l)) (row.puts v)
      not_put i slot v row k lies by = by_test (nat_eq i (length p.parts)) refl
        where
          is_share : slice_get x.parts (length p.parts) ≡ Some (Share t)
          is_share = ap (λ ks. slice_get ks (length p.parts)) (parts_so s n R x of_x) ∙ share (length p.parts) t c R p behind.frame

          of_share : i ≡ length p.parts → NotAt (length p.parts) (PartEnd (length p.parts) (m + l)) (row.puts v)
          of_share same =
              let fires : firing (Share t) (k.state i) slot ≡ Some row =
              ap (λ f. firing_of f (k.state i) slot) (sym is_share ∙ ap (slice_get x.parts) (sym same)) ∙ by
              in
              let (takes, lows) = share_row (RowLow (count t)) t (k.state i) slot row (λ j c at. low_shared (count t) j (k.state i).number c.role) fires in
              own_part (length p.parts) (m + l) (count t) (shake_of row.takes) fits_t
              (λ b is. no_caller b (shake_of slot) (ap shake_of (sym takes) ∙ is) (way_of slot) v k (ap (λ (h : ℕ). token_at x k (PartEnd h (shake_of slot)) (way_of slot)) (sym same) ∙ lies))
              (row.puts v) (lows v)

          by_test : (b : Bool) → nat_eq i (length p.parts) ≡ b → NotAt i (PartEnd (length p.parts) (m + l)) (row.puts v)
          by_test false test = other_part i (length p.parts) (m + l) test (row.puts v)
          by_test true test = let same : i ≡ length p.parts = grind (arith, test) in subst (λ (h : ℕ). NotAt h (PartEnd (length p.parts) (m + l)) (row.puts v)) (sym same) (of_share same)

      puts_none : (i : ℕ) (part : Part) → slice_get x.parts i ≡ Some part → (ts : List Token) → PutsInRole part ts → NotAt i (PartEnd (length p.parts) (m + l)) ts → (k : Tokens)
          → k.in_place way a ≡ None → (with_puts x i ts k).in_place way a ≡ None
      puts_none i part is [] roles apart k none = none
      puts_none i part is (y ∷ ts) (role, roles) (here, apart) k none =
          puts_none i part is ts roles apart (with_token x (end_of i y.slot) (way_of y.slot) (Some y.value) k)
          (placed_apart x (end_of i y.slot) a (way_of y.slot) way (Some y.value) k clash ∙ none)
        where
          clash : way ≡ way_of y.slot → places_of x (end_of i y.slot) ≡ Some a → ⊥
          clash same placed =
              let at = joined x (end_of i y.slot) a of_x.joining.right placed in
              let in_part : slice_get (part_contacts part) (shake_of y.slot) ≡ Some at.here = ap (λ f. slice_get (contacts_of_part f) (shake_of y.slot)) (sym is) ∙ at.is_here in
              same_not_false (end_of i y.slot) (PartEnd (length p.parts) (m + l))
              (only (end_of i y.slot) at.here at.is_here (same ∙ (way_to_put y.slot ∙ ap way_put (sym (role at.here in_part)))) placed) here

      stays_empty : (z : Element) (k w : Tokens) → Does x z k w → k.in_place way a ≡ None → w.in_place way a ≡ None
      stays_empty (Fire i slot) k w (v, row, lies, by, leads) none =
          let (part, is) = firing_part (slice_get x.parts i) (k.state i) slot row by in
          let fires : firing part (k.state i) slot ≡ Some row = ap (λ f. firing_of f (k.state i) slot) (sym is) ∙ by in
          let roles = row_roles part (k.state i) slot row v fires in
          ap (λ (y : Tokens). y.in_place way a) leads
          ∙ puts_none i part is (row.puts v) roles.1.1 (not_put i slot v row k lies by) (with_state i (row.next v) (with_token x (end_of i row.takes) (way_of row.takes) None k))
          (stays_none x (end_of i row.takes) a (way_of row.takes) way k none)
      stays_empty (Out d v) k w (port, passes) none = of_contact (contact_at x d) refl
        where
          of_contact : (f : Option Contact) → contact_at x d ≡ f → w.in_place way a ≡ None
          of_contact None missing = absurd (subst (λ (f : Option Contact). Passes x (Out d v) f k w) missing passes)
          of_contact (Some e) there =
              let pass = subst (λ (f : Option Contact). Passes x (Out d v) f k w) there passes in
              ap (λ (y : Tokens). y.in_place way a) pass.1 ∙ stays_none x d a (way_taken e.role) way k none
      stays_empty (In d v) k w (port, passes) none = of_contact (contact_at x d) refl
        where
          of_contact : (f : Option Contact) → contact_at x d ≡ f → w.in_place way a ≡ None
          of_contact None missing = absurd (subst (λ (f : Option Contact). Passes x (In d v) f k w) missing passes)
          of_contact (Some e) there =
              let pass = subst (λ (f : Option Contact). Passes x (In d v) f k w) there passes in
              ap (λ (y : Tokens). y.in_place way a) pass.1
              ∙ (placed_apart x d a (way_put e.role) way (Some v) k
              (λ same placed. same_not_false d (PartEnd (length p.parts) (m + l)) (only d e there same placed) (port_apart d (length p.parts) (m + l) port))
              ∙ none)

      pub never : (xs : List Element) (k w : Tokens) → Runs x xs k w → k.in_place way a ≡ None → w.in_place way a ≡ None
      never [] k w runs none = ap (λ (y : Tokens). y.in_place way a) runs ∙ none
      never (e ∷ xs) k w (y, does, runs) none = never xs y w runs (stays_empty e k y does none)
