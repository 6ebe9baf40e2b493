-- A plan whose result is asked at one handshake: which ports it has, and turns at these.
use Rattle.std.specs.Prelude.{◌+◌, ◌-◌, ◌<◌, slice_get, nat_eq, nat_lt}
use Rattle.std.proofs.Common.{◌≡◌, ℕ, zero, suc, Bool, true, false, List, [], ◌∷◌, ◌⊎◌, Option, Some, inl, inr, refl, sym, ◌∙◌, ap, arith, if◌then◌else◌}
use Rattle.std.proofs.lemmas.Option.{none-some, same_Some, slice_get_within}
use Rattle.std.proofs.lemmas.Bool.Decides.{nat_tests}
use Rattle.gos_types.specs.declared.shakes.Role.TheVariants.{Serve, Ask}
use Rattle.gos_types.specs.Types.{Type', Com, Exp, Var, Pair, Fun, IsGround, IsDone}
use Rattle.gos_nodes.specs.sessions.Sessions.{bits}
use Rattle.gos_types.specs.Events.{Request, Answer}
use Rattle.gos_model.specs.Typing.{Imported}
use Rattle.gos_model.proofs.NumberLemmas.{nat_eq_itself}
use Rattle.gos_plan.specs.Kinds.{Contact, asks, contacts_of}
use Rattle.gos_plan.specs.Plans.{End, PartEnd, ImportEnd, ResultEnd, Plan, contact_at, contacts_of_import, turned_if}
use Rattle.gos_plan.specs.Tokens.{IsPortEnd}
use Rattle.gos_plan.proofs.ContactLemmas.{turned_some}
use Rattle.gos_realises.specs.realises.Regular.{count, Pass, pass, way_in, way_out, is_open, beyond, KeepsTurnsOf, whole_type, whole_end}
use Rattle.gos_realises.specs.realises.Realises.{AllGround}
use Rattle.gos_realises.proofs.realises.GroundTurnLemmas.{width, count_fun, there_some, some_there, done_kept}
use Rattle.gos_realises.proofs.realises.InputLemmas.{import_serves, one_ground}
use Rattle.gos_realises.proofs.realises.ToldLemmas.{there_is}
use Rattle.gos_nodes.proofs.windows.TurnLemmas.{Turned, ports_turned, whole_index}
use Rattle.gos_joining.proofs.renumbered.TurnLemmas.{of_result}
use Rattle.gos_nodes.specs.windows.OneSession.{IsAsked}
use Rattle.gos_joining.specs.webs.Cutting.{Cut}
use Rattle.gos_nodes.specs.windows.OpenNodes.{IsHeard}

-- a result of a ground type asks
pub ground_asks : (t : Type') → IsGround t → (h : ℕ) (c : Contact) → turned_if (slice_get (contacts_of t) h) ≡ Some c → Ask ≡ c.role
ground_asks Com g zero c is = ap (λ (x : Contact). x.role) (same_Some _ c is)
ground_asks Com g (suc h) c is = absurd (none-some c is)
ground_asks (Exp w) g zero c is = ap (λ (x : Contact). x.role) (same_Some _ c is)
ground_asks (Exp w) g (suc h) c is = absurd (none-some c is)
ground_asks (Var w) g zero c is = ap (λ (x : Contact). x.role) (same_Some _ c is)
ground_asks (Var w) g (suc zero) c is = ap (λ (x : Contact). x.role) (same_Some _ c is)
ground_asks (Var w) g (suc (suc h)) c is = absurd (none-some c is)
ground_asks (Pair a b) g h c is = absurd g
ground_asks (Fun a b) g h c is = absurd g

-- which ports there are
pub ground_port : (p : Plan) → IsGround p.outcome → (e : End) (c : Contact) → IsPortEnd e → contact_at p e ≡ Some c
    → ((h : ℕ) × (e ≡ ResultEnd h) × (c.role ≡ Ask)) ⊎ ((i h : ℕ) × (e ≡ ImportEnd i h))
ground_port p done (PartEnd i h) c port is = absurd port
ground_port p done (ImportEnd i h) c port is = inr (i, h, refl)
ground_port p done (ResultEnd h) c port is = inl (h, refl, sym (ground_asks p.outcome done h c is))

-- with ground imports
pub ground_role : (p : Plan) → AllGround p.imports → IsGround p.outcome → (e : End) (c : Contact) → IsPortEnd e → contact_at p e ≡ Some c
    → ((h : ℕ) × (e ≡ ResultEnd h) × (c.role ≡ Ask)) ⊎ ((i h : ℕ) × (e ≡ ImportEnd i h) × (c.role ≡ Serve))
ground_role p ground done (PartEnd i h) c port is = absurd port
ground_role p ground done (ImportEnd i h) c port is =
    let (x, there) = there_is p.imports i h c is in
    let role = import_serves x.ty (one_ground p.imports ground i x there) h c (sym (ap (λ (o : Option Imported). slice_get (contacts_of_import o) h) there) ∙ is) in
    inr (i, h, refl, sym role)
ground_role p ground done (ResultEnd h) c port is = inl (h, refl, sym (ground_asks p.outcome done h c is))

-- the number of all handshakes
count_whole : (is : List Imported) (t : Type') → count (whole_type is t) ≡ width is + count t
count_whole [] t = omega arith
count_whole (i ∷ is) t =
    let sum = count_fun i.ty (whole_type is t) in
    let rest = count_whole is t in omega (arith, sum, rest)

-- where something is open, something of the result is
result_some : (is : List Imported) (t : Type') (f r : ℕ → Bool) → ((j : ℕ) → f (width is + j) ≡ r j) → KeepsTurnsOf (whole_type is t) f
    → (k : ℕ) → k < count (whole_type is t) → f k ≡ true → (j : ℕ) × (j < count t) × (r j ≡ true)
result_some [] t f r same keeps k low up =
    let none : k ≡ 0 + k = omega arith in (k, low, sym (same k) ∙ (ap f (sym none) ∙ up))
result_some (i ∷ is) t f r same (own, rest, leads) k low up =
    by_test (nat_lt k (count i.ty)) refl (λ n less open_n. result_some is t (beyond (count i.ty) f) r behind rest n less open_n)
  where
    behind : (j : ℕ) → beyond (count i.ty) f (width is + j) ≡ r j
    behind j =
        let order : count i.ty + (width is + j) ≡ count i.ty + width is + j = omega arith in ap f order ∙ same j

    by_test : (b : Bool) → nat_lt k (count i.ty) ≡ b
        → ((n : ℕ) → n < count (whole_type is t) → beyond (count i.ty) f n ≡ true → (j : ℕ) × (j < count t) × (r j ≡ true))
        → (j : ℕ) × (j < count t) × (r j ≡ true)
    by_test true t' further =
        let small : k < count i.ty = grind (arith, nat_tests, t') in
        let (n, less, open_n) = some_there (count (whole_type is t)) (beyond (count i.ty) f) (leads (there_some (count i.ty) f k small up)) in
        further n less open_n
    by_test false t' further =
        let sum = count_fun i.ty (whole_type is t) in
        let past : count i.ty + (k - count i.ty) ≡ k = grind (arith, nat_tests, t') in
        let small : k - count i.ty < count (whole_type is t) = omega (arith, low, sum, past) in
        further (k - count i.ty) small (ap f past ∙ up)

-- ground imports don't ask
pub not_asked : (p : Plan) → AllGround p.imports → IsGround p.outcome → (i h : ℕ) → IsAsked p (ImportEnd i h) → ⊥
not_asked p ground done i h (c, there, asks) =
    elim (ground_role p ground done (ImportEnd i h) c tt there) [
      | inl result ↦ (let clash : ImportEnd i h ≡ ResultEnd result.0 = result.1 in cc clash)
      | inr import ↦ (let clash : Ask ≡ Serve = sym asks ∙ import.3 in cc clash)
    ]

pub ground_heard : (f : Cut) (r p : Plan) → AllGround p.imports → IsGround p.outcome → IsHeard f r p
ground_heard f r p ground done i h n k c stands at is asks = absurd (not_asked p ground done i n (c, is, asks))

-- where the ends of the whole type stand
result_ends : (k : ℕ) (is : List Imported) (j : ℕ) → whole_end k is (width is + j) ≡ ResultEnd j
result_ends k [] j = let none : 0 + j ≡ j = omega arith in ap ResultEnd none
result_ends k (i ∷ is) j =
    let past : nat_lt (count i.ty + width is + j) (count i.ty) ≡ false = grind (arith, nat_tests) in
    let less : count i.ty + width is + j - count i.ty ≡ width is + j = omega arith in
    ap (λ (b : Bool). if b then ImportEnd k (count i.ty + width is + j) else whole_end (suc k) is (count i.ty + width is + j - count i.ty)) past
    ∙ (ap (whole_end (suc k) is) less ∙ result_ends (suc k) is j)

-- only this handshake of the result is open
abbrev pub OnlyAt : ℕ → List Pass → Type 0
OnlyAt h past = (k : ℕ) → is_open past (ResultEnd k) ≡ true → k ≡ h

-- its answer closes it
pub answered_shut : (h : ℕ) (past : List Pass) → OnlyAt h past → (k : ℕ) → is_open (pass (ResultEnd h) Answer ∷ past) (ResultEnd k) ≡ false
answered_shut h past only k = by_test (nat_eq h k) refl
  where
    by_open : (b : Bool) → is_open past (ResultEnd k) ≡ b → nat_eq h k ≡ false → b ≡ false
    by_open false shut t = refl
    by_open true up t =
        let same : k ≡ h = only k up in
        let clash : nat_eq h k ≡ true = grind (arith, same) in absurd (cc (sym t ∙ clash))

    by_test : (b : Bool) → nat_eq h k ≡ b → (if b then false else is_open past (ResultEnd k)) ≡ false
    by_test true t = refl
    by_test false t = by_open (is_open past (ResultEnd k)) refl t

-- the handshake of a command or an expression
pub done_contact : (t : Type') → IsDone t → turned_if (slice_get (contacts_of t) 0) ≡ Some (asks 0 (bits t))
done_contact Com done = refl
done_contact (Exp w) done = refl
done_contact (Var w) done = absurd done
done_contact (Pair a b) done = absurd done
done_contact (Fun a b) done = absurd done

-- A plan whose result is asked at handshake h, with these bits: its turns are kept where no other handshake of the result is open.
pub record IsAskedAt (p : Plan) (h asking answering : ℕ) : Type 0 where
  pub contact : contact_at p (ResultEnd h) ≡ Some (asks asking answering)
  pub ground : IsGround p.outcome
  pub keeps : (f : ℕ → Bool) → ((k : ℕ) → f k ≡ true → k ≡ h) → KeepsTurnsOf p.outcome f

-- so is a command or an expression
pub done_asked : (p : Plan) → IsDone p.outcome → IsAskedAt p 0 0 (bits p.outcome)
done_asked p done =
    record {
      contact = done_contact p.outcome done;
      ground = done_ground p.outcome done;
      keeps = λ f only. done_kept p.outcome done f;
    }
  where
    done_ground : (t : Type') → IsDone t → IsGround t
    done_ground Com done = tt
    done_ground (Exp w) done = tt
    done_ground (Var w) done = absurd done
    done_ground (Pair a b) done = absurd done
    done_ground (Fun a b) done = absurd done

module _ (p : Plan) (h asking answering : ℕ) (is : IsAskedAt p h asking answering) where
  pub asked_is : (c : Contact) → contact_at p (ResultEnd h) ≡ Some c → asks asking answering ≡ c
  asked_is c at = same_Some _ c (sym is.contact ∙ at)

  pub asked_role : (c : Contact) → contact_at p (ResultEnd h) ≡ Some c → Ask ≡ c.role
  asked_role c at = ap (λ (x : Contact). x.role) (asked_is c at)

  pub asked_in : way_in (contact_at p (ResultEnd h)) ≡ Request
  asked_in = ap way_in is.contact

  pub asked_out : way_out (contact_at p (ResultEnd h)) ≡ Answer
  asked_out = ap way_out is.contact

  result_at : (past : List Pass) (j : ℕ) → is_open past (whole_end 0 p.imports (width p.imports + j)) ≡ is_open past (ResultEnd j)
  result_at past j = ap (is_open past) (result_ends 0 p.imports j)

  -- where the result is open at this handshake alone
  pub asked_turned : (past : List Pass) → OnlyAt h past → is_open past (ResultEnd h) ≡ true
      → ((i g : ℕ) (x : Imported) → slice_get p.imports i ≡ Some x → is_open past (ImportEnd i g) ≡ true → KeepsTurnsOf x.ty (λ n. is_open past (ImportEnd i n)))
      → Turned p past
  asked_turned past only up kept =
      ports_turned p past (is.keeps (of_result (is_open past)) only) kept (λ i g there. there_some (count p.outcome) (of_result (is_open past)) h below up)
    where
      below : h < count p.outcome
      below =
          let (k, there) = turned_some (slice_get (contacts_of p.outcome) h) (asks asking answering) is.contact in
          slice_get_within (contacts_of p.outcome) h k there

  pub asked_first : Turned p (pass (ResultEnd h) Request ∷ [])
  asked_first =
      asked_turned (pass (ResultEnd h) Request ∷ []) (λ k up. one k (nat_eq h k) refl up) (ap (λ (b : Bool). if b then true else false) (nat_eq_itself h))
      (λ i g x there up. absurd (cc up))
    where
      one : (k : ℕ) (b : Bool) → nat_eq h k ≡ b → (if b then true else false) ≡ true → k ≡ h
      one k true t up = grind (arith, t)
      one k false t up = absurd (cc up)

  -- where the result is closed so are the imports
  pub asked_shut : (past : List Pass) → Turned p past → ((k : ℕ) → is_open past (ResultEnd k) ≡ false) → (i g : ℕ) (c : Contact) → contact_at p (ImportEnd i g) ≡ Some c
      → is_open past (ImportEnd i g) ≡ false
  asked_shut past turned shut i g c there = by_test (is_open past (ImportEnd i g)) refl
    where
      by_test : (b : Bool) → is_open past (ImportEnd i g) ≡ b → b ≡ false
      by_test false t = refl
      by_test true t =
          let (k, small, at) = whole_index p.imports 0 i g c there in
          let zero_plus : 0 + i ≡ i = omega arith in
          let up : is_open past (whole_end 0 p.imports k) ≡ true = ap (is_open past) (at ∙ ap (λ (m : ℕ). ImportEnd m g) zero_plus) ∙ t in
          let sum = count_whole p.imports p.outcome in
          let (j, less, open_j) =
          result_some p.imports p.outcome (λ n. is_open past (whole_end 0 p.imports n)) (λ n. is_open past (ResultEnd n)) (result_at past) turned k (omega (arith, small, sum)) up in
          let clash : true ≡ false = sym open_j ∙ shut j in absurd (cc clash)
