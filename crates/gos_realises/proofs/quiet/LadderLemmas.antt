-- Below each open handshake of a rank there is one of the rank before: the one that its part will not answer first.
use Rattle.std.specs.Prelude.{Option}
use Rattle.std.proofs.Common.{◌≡◌, ℕ, suc, Bool, true, false, List, [], ◌∷◌, Some, slice_get, refl, sym, ◌∙◌, subst, arith, nat_eq, if◌then◌else◌}
use Rattle.gos_types.specs.declared.shakes.Role.TheVariants.{Serve}
use Rattle.gos_plan.specs.Kinds.{Part, Contact}
use Rattle.gos_plan.specs.Firing.{State, Slot, Req, Ans, Token, Row, same_slot}
use Rattle.gos_plan.specs.Plans.{End, PartEnd, Plan, IsRight, contacts_of_part, contact_at, same_end}
use Rattle.gos_plan.specs.Tokens.{Tokens, places_of, end_of, way_of, shake_of}
use Rattle.gos_plan.specs.Orderly.{Open, with_open, after_put, after_puts}
use Rattle.gos_plan.proofs.RowLemmas.{role_putting}
use Rattle.gos_plan.proofs.AskingLemmas.{RequestAsks, PutsAsking, PutsInRole, RoleIs}
use Rattle.gos_plan.proofs.ProjectionLemmas.{named}
use Rattle.gos_realises.specs.quiet.Ranks.{Ranks, with_rank, rank_put, ranks_after}
use Rattle.gos_realises.proofs.quiet.TieLemmas.{Tied, is_put}
use Rattle.gos_realises.proofs.quiet.FrameLemmas.{Busy}

-- what stands below an open handshake of part i
pub record Support (p : Plan) (o : Open) (f : Ranks) (s : Tokens) (i a r : ℕ) : Type 0 where
  pub kind : Part
  pub is : slice_get p.parts i ≡ Some kind
  pub server : ℕ
  pub place : End
  pub there : places_of p (PartEnd i server) ≡ Some place
  pub serves : RoleIs kind server Serve
  pub tied : Tied kind (s.state i) a server
  pub busy : Busy o s place
  pub rank : f place ≡ r

abbrev pub Ladders : Plan → Open → Ranks → Tokens → Type 0
Ladders p o f s = (i a r : ℕ) → o (PartEnd i a) ≡ true → f (PartEnd i a) ≡ suc r → Support p o f s i a r

-- what part i of this kind, in state q, is tied to by a row, where o is open
abbrev pub LawAt : Plan → Open → ℕ → Part → State → ℕ → Row → Type 0
LawAt p o i k q v r =
    (a b : ℕ)
    → (is_put (Req a) (r.puts v) ≡ true → same_slot r.takes (Req b) ≡ true → Tied k (r.next v) a b × (is_put (Ans b) (r.puts v) ≡ false))
    × (Tied k q a b → o (PartEnd i a) ≡ true → same_slot r.takes (Ans a) ≡ false → (is_put (Ans b) (r.puts v) ≡ false) × Tied k (r.next v) a b)

-- what a part opens, and the ranks that it gives
pub opened_by : (p : Plan) (i : ℕ) (k : Part) (ts : List Token) (o : Open) (a : ℕ) → IsRight p → slice_get p.parts i ≡ Some k → PutsAsking k ts
    → after_puts p i ts o (PartEnd i a) ≡ (if is_put (Req a) ts then true else o (PartEnd i a))
opened_by p i k [] o a right is asks = refl
opened_by p i k (t ∷ ts) o a right is asks =
    opened_by p i k ts (after_put p (end_of i t.slot) (way_of t.slot) o) a right is asks.1 ∙ by_slot t.slot asks.0
  where
    by_slot : (slot : Slot) → RequestAsks k slot
        → (if is_put (Req a) ts then true else after_put p (end_of i slot) (way_of slot) o (PartEnd i a))
        ≡ (if (if same_slot slot (Req a) then true else is_put (Req a) ts) then true else o (PartEnd i a))
    by_slot (Req h) request =
        subst (λ (e : End). (if is_put (Req a) ts then true else with_open e true o (PartEnd i a))
        ≡ (if (if same_slot (Req h) (Req a) then true else is_put (Req a) ts) then true else o (PartEnd i a))) (sym (named p i h k right is request)) (grind arith)
    by_slot (Ans h) request = refl

pub rank_by : (p : Plan) (i n : ℕ) (k : Part) (ts : List Token) (f : Ranks) (a : ℕ) → IsRight p → slice_get p.parts i ≡ Some k → PutsAsking k ts
    → ranks_after p i n ts f (PartEnd i a) ≡ (if is_put (Req a) ts then n else f (PartEnd i a))
rank_by p i n k [] f a right is asks = refl
rank_by p i n k (t ∷ ts) f a right is asks =
    rank_by p i n k ts (rank_put p (end_of i t.slot) (way_of t.slot) n f) a right is asks.1 ∙ by_slot t.slot asks.0
  where
    by_slot : (slot : Slot) → RequestAsks k slot
        → (if is_put (Req a) ts then n else rank_put p (end_of i slot) (way_of slot) n f (PartEnd i a))
        ≡ (if (if same_slot slot (Req a) then true else is_put (Req a) ts) then n else f (PartEnd i a))
    by_slot (Req h) request =
        subst (λ (e : End). (if is_put (Req a) ts then n else with_rank e n f (PartEnd i a))
        ≡ (if (if same_slot (Req h) (Req a) then true else is_put (Req a) ts) then n else f (PartEnd i a))) (sym (named p i h k right is request)) (grind arith)
    by_slot (Ans h) request = refl

pub rank_elsewhere : (p : Plan) (i n : ℕ) (k : Part) (ts : List Token) (f : Ranks) (e : End) → IsRight p → slice_get p.parts i ≡ Some k → PutsAsking k ts
    → ((h : ℕ) → same_end e (PartEnd i h) ≡ false) → ranks_after p i n ts f e ≡ f e
rank_elsewhere p i n k [] f e right is asks apart = refl
rank_elsewhere p i n k (t ∷ ts) f e right is asks apart =
    rank_elsewhere p i n k ts (rank_put p (end_of i t.slot) (way_of t.slot) n f) e right is asks.1 apart ∙ by_slot t.slot asks.0
  where
    by_slot : (slot : Slot) → RequestAsks k slot → rank_put p (end_of i slot) (way_of slot) n f e ≡ f e
    by_slot (Req h) request = subst (λ (d : End). with_rank d n f e ≡ f e) (sym (named p i h k right is request)) (rw (apart h) refl)
    by_slot (Ans h) request = refl

-- an answer is put where the part serves
pub put_role : (k : Part) (ts : List Token) (h : ℕ) → PutsInRole k ts → is_put (Ans h) ts ≡ true → RoleIs k h Serve
put_role k [] h roles put = absurd (cc put)
put_role k (t ∷ ts) h roles put = by_slot t.slot refl (put_role k ts h roles.1)
  where
    by_slot : (slot : Slot) → t.slot ≡ slot → (is_put (Ans h) ts ≡ true → RoleIs k h Serve) → RoleIs k h Serve
    by_slot (Req g) is more = more (grind (arith, put, is))
    by_slot (Ans g) is more = by_test (nat_eq g h) refl
      where
        role : RoleIs k g Serve
        role = subst (λ (x : Slot). RoleIs k (shake_of x) (role_putting x)) is roles.0

        by_test : (b : Bool) → nat_eq g h ≡ b → RoleIs k h Serve
        by_test true same = let here : g ≡ h = grind (arith, same) in subst (λ (x : ℕ). RoleIs k x Serve) here role
        by_test false apart = more (grind (arith, put, is, apart))

pub at_end : (p : Plan) (i h : ℕ) (k : Part) → slice_get p.parts i ≡ Some k → RoleIs k h Serve → (c : Contact) → contact_at p (PartEnd i h) ≡ Some c → c.role ≡ Serve
at_end p i h k is role c there = role c (subst (λ (x : Option Part). slice_get (contacts_of_part x) h ≡ Some c) is there)

pub part_is : (i j h g : ℕ) → PartEnd i h ≡ PartEnd j g → i ≡ j
part_is i j h g e = grind (arith, e)

pub shake_is : (i j h g : ℕ) → PartEnd i h ≡ PartEnd j g → h ≡ g
shake_is i j h g e = grind (arith, e)
