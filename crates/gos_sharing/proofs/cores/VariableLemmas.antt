-- A still plan of a variable is still where it is read or written.
use Rattle.std.specs.Prelude.{ℕ, zero, suc, ◌+◌, ◌-◌, ◌≤◌, Bool, true, false, List, Option, Some, None, All, length, slice_get, nat_eq, if◌then◌else◌}
use Rattle.std.proofs.Common.{◌≡◌, [], ◌∷◌, ◌⊎◌, inl, inr, refl, sym, ◌∙◌, ap, subst, arith}
use Rattle.gos_types.specs.declared.shakes.Role.TheVariants.{Ask}
use Rattle.gos_types.specs.Types.{Com, Exp, Var, IsDone}
use Rattle.gos_types.specs.Events.{Request, Answer}
use Rattle.gos_plan.specs.Kinds as kinds
use Rattle.gos_plan.specs.Kinds.{Part, Contact, asks, serves, contacts_of}
use Rattle.gos_plan.specs.Firing.{Phase, Rest, Waiting, Value, Writing, at, Slot, Req, Ans, put, Row, row, rows}
use Rattle.gos_plan.specs.Plans.{End, PartEnd, ImportEnd, ResultEnd, Plan, contact_at, contacts_of_part}
use Rattle.gos_plan.specs.Tokens.{Tokens, Fire, token_at, end_of, way_of, firing_of, fired, Does}
use Rattle.gos_plan.specs.TokenBits.{LiteralFits}
use Rattle.gos_plan.proofs.JointLemmas.{IsIn, fits, contained}
use Rattle.gos_plan.proofs.RowLemmas.{EachRow, row_with}
use Rattle.gos_realises.specs.realises.Regular.{Pass, IsRegular}
use Rattle.gos_realises.specs.realises.Wirings.{lone}
use Rattle.gos_realises.proofs.realises.LiteralLemmas.{reading_literals, writing_literals, literals_joined}
use Rattle.gos_joining.specs.webs.Webs.{joint}
use Rattle.gos_sharing.proofs.buffers.DrivenLemmas.{IsPlain, DrivenJoint, IsDriven, past_end}
use Rattle.gos_sharing.proofs.buffers.ReadingLemmas.{ReadOwn, read_is_driven}
use Rattle.gos_sharing.proofs.buffers.WritingLemmas.{WriteOwn, write_is_driven}
use Rattle.gos_supplies.specs.unjoined.Beside.{placed}
use Rattle.gos_supplies.proofs.unjoined.SettledLemmas.{low, end_there}
use Rattle.gos_supplies.proofs.unjoined.FrontLemmas.{front, behind}
use Rattle.gos_supplies.proofs.turns.RunLemmas.{Reached}
use Rattle.gos_sharing.specs.cores.Core.{Core, core_end, IsCore, IsDead, IsStill}
use Rattle.gos_sharing.specs.cores.Joined.{carried, ReadingIsStill, WritingIsStill}
use Rattle.gos_sharing.proofs.cores.TrimLemmas.{IsOut, told_joint}
use Rattle.gos_sharing.proofs.cores.CoreLemmas.{seats, kept, within, out_dead, seated_from}
use Rattle.gos_sharing.proofs.cores.RegularLemmas.{core_regular}
use Rattle.gos_sharing.proofs.cores.DriverLemmas.{IsOther, asking_inner}
use Rattle.gos_sharing.proofs.cores.DriveLemmas.{Goes, Bits, drive_asks, drive_takes, drive_silent, goes_along}

-- where both are driven alike
module _ (f : Core) (r c : Plan) (is : IsCore f r c) (still : IsStill f r c) (x y : Plan) (v h : ℕ) (ds : List Part) (Own : ℕ → End → End → Type 0)
    (driven_x : IsDriven v h ds Own r x) (driven_y : IsDriven v h ds Own c y) where
  abbrev new : Core
  new = carried f r c x

  new_seat : (e : End) (k : Contact) → contact_at c e ≡ Some k → core_end new e ≡ placed (seats f r c is) e
  new_seat (PartEnd i g) k at =
      let small = end_there c (PartEnd i g) k at in
      ap (λ (n : ℕ). PartEnd n g) (front (length c.parts) (length r.parts) f.part i small ∙ sym (low (length c.parts) (length r.parts) f.part i small))
  new_seat (ImportEnd i g) k at =
      let small = end_there c (ImportEnd i g) k at in
      ap (λ (n : ℕ). ImportEnd n g) (front (length c.imports) (length r.imports) f.import i small ∙ sym (low (length c.imports) (length r.imports) f.import i small))
  new_seat (ResultEnd g) k at = refl

  -- the driving parts
  pub behind_new : (j g : ℕ) → core_end new (PartEnd (length c.parts + j) g) ≡ PartEnd (length r.parts + j) g
  behind_new j g =
      let less : length c.parts + j - length c.parts ≡ j = omega arith in
      ap (λ (n : ℕ). PartEnd n g) (behind (length c.parts) (length r.parts) f.part (length c.parts + j) (omega arith) ∙ ap (λ (n : ℕ). length r.parts + n) less)

  pub first_new : (g : ℕ) → core_end new (PartEnd (length c.parts) g) ≡ PartEnd (length r.parts) g
  first_new g =
      let one : length c.parts + 0 ≡ length c.parts = omega arith in
      let other : length r.parts + 0 ≡ length r.parts = omega arith in
      ap (λ (n : ℕ). core_end new (PartEnd n g)) (sym one) ∙ (behind_new 0 g ∙ ap (λ (n : ℕ). PartEnd n g) other)

  plain_seat : (d : End) → IsPlain (placed (seats f r c is) d) → IsPlain d
  plain_seat (PartEnd i g) plain = tt
  plain_seat (ImportEnd i g) plain = tt
  plain_seat (ResultEnd g) plain = plain

  result_seat : (d : End) → placed (seats f r c is) d ≡ ResultEnd v → d ≡ ResultEnd v
  result_seat (PartEnd i g) same = absurd (cc same)
  result_seat (ImportEnd i g) same = absurd (cc same)
  result_seat (ResultEnd g) same = same

  abbrev OwnBack : Type 0
  OwnBack = (a b : End) → Own (length r.parts) a b → (a0 : End) × (b0 : End) × Own (length c.parts) a0 b0 × (core_end new a0 ≡ a) × (core_end new b0 ≡ b)

  -- a dead joint of the whole is a dead joint of the plan, or of what is driven there
  abbrev pub DeadSort : End → End → Type 0
  DeadSort a b =
      (IsPlain a × IsIn (joint a b) r.joints × IsOut r (kept f r c is) is.right (within f r c is) a b)
      ⊎ ((a ≡ PartEnd (length r.parts) h) × IsOut r (kept f r c is) is.right (within f r c is) (ResultEnd v) b)

  pub dead_sort : OwnBack → (a b : End) → IsDead new x y a b → DeadSort a b
  dead_sort own_back a b dead = by_joint ((driven_x.joints a b).0 dead.0)
    where
      both_ends : (d e : End) → IsIn (joint d e) c.joints → (core_end new d ≡ placed (seats f r c is) d) × (core_end new e ≡ placed (seats f r c is) e)
      both_ends d e in_c =
          let (q, k, asked, served) = fits c [] c.joints (joint d e) is.also_right in_c in (new_seat d (asks q k) asked, new_seat e (serves q k) served)

      by_joint : DrivenJoint v h Own (length r.parts) r a b → DeadSort a b
      by_joint (inl (in_r, plain)) =
          elim (told_joint r (kept f r c is) is.right (within f r c is) a b in_r) [
            | inl has ↦ (let (d, e, in_c, at_d, at_e) = seated_from (seats f r c is) c.joints (joint a b) (contained (kept f r c is) (joint a b) has) in
                let (new_d, new_e) = both_ends d e in_c in
                absurd (dead.1 d e ((driven_y.joints d e).1 (inl (in_c, plain_seat d (subst IsPlain (sym at_d) plain)))) (new_d ∙ at_d) (new_e ∙ at_e)))
            | inr out ↦ inl (plain, in_r, out)
          ]
      by_joint (inr (inl (drives, in_r))) =
          elim (told_joint r (kept f r c is) is.right (within f r c is) (ResultEnd v) b in_r) [
            | inl has ↦ (let (d, e, in_c, at_d, at_e) =
                seated_from (seats f r c is) c.joints (joint (ResultEnd v) b) (contained (kept f r c is) (joint (ResultEnd v) b) has)
                in
                let (new_d, new_e) = both_ends d e in_c in
                let in_v = subst (λ (z : End). IsIn (joint z e) c.joints) (result_seat d at_d) in_c in
                absurd (dead.1 (PartEnd (length c.parts) h) e ((driven_y.joints (PartEnd (length c.parts) h) e).1 (inr (inl (refl, in_v))))
                (first_new h ∙ sym drives) (new_e ∙ at_e)))
            | inr out ↦ inr (drives, out)
          ]
      by_joint (inr (inr own)) =
          let (a0, b0, own0, at_a, at_b) = own_back a b own in absurd (dead.1 a0 b0 ((driven_y.joints a0 b0).1 (inr (inr own0))) at_a at_b)

  module _ (w : ℕ) (outcome : r.outcome ≡ Var w)
      (own_ends : (a b : End) → Own (length r.parts) a b → IsOther (length r.parts) h a × IsOther (length r.parts) h b)
      (driver_asks : (k : Contact) × (contact_at x (PartEnd (length r.parts) h) ≡ Some k) × (k.role ≡ Ask)) (done : IsDone x.outcome)
      (asked : Phase → Bool) (at_rest : asked Rest ≡ false) (q b : ℕ) (contact : slice_get (contacts_of (Var w)) v ≡ Some (serves q b)) (regular : IsRegular r)
      (literals : All LiteralFits x.parts) where
    abbrev pub GoesOn : List Pass → Tokens → Type 0
    GoesOn = Goes v h ds Own r x is.right driven_x w outcome own_ends driver_asks done asked at_rest q b contact regular

    abbrev pub Drives : Type 0
    Drives =
        (past : List Pass) (t t' : Tokens) (i : ℕ) (slot : Slot) → GoesOn past t
        → Bits v h ds Own r x is.right driven_x w outcome own_ends driver_asks done asked at_rest q b contact regular t → length r.parts ≤ i → Does x (Fire i slot) t t'
        → GoesOn past t'

    pub driven_still : OwnBack → Drives → IsStill new x y
    driven_still own_back drives s t xs a d way idle runs keeps dead = by_sort (dead_sort own_back a d dead)
      where
        on : (past : List Pass) × GoesOn past t
        on = goes_along v h ds Own r x is.right driven_x w outcome own_ends driver_asks done asked at_rest q b contact regular literals drives s t xs idle runs keeps

        so : GoesOn on.0 t
        so = on.1

        empty : (z e : End) → IsOut r (kept f r c is) is.right (within f r c is) z e → so.tokens.in_place way z ≡ None
        empty z e out =
            let m : Reached r so.opens so.own_past so.tokens = so.reached in
            still m.first so.tokens m.list z e way m.idle m.runs m.inputs (out_dead f r c is z e out)

        by_sort : DeadSort a d → t.in_place way a ≡ None
        by_sort (inl (plain, in_r, out)) =
            sym (so.alike.inner way a (asking_inner v h ds Own r x is.right driven_x w outcome own_ends driver_asks done a d in_r plain)) ∙ empty a d out
        by_sort (inr (drive, out)) = ap (t.in_place way) drive ∙ (sym (so.alike.driver_same way) ∙ empty (ResultEnd v) d out)

pub apart_shakes : (n g h : ℕ) → (g ≡ h → ⊥) → PartEnd n g ≡ PartEnd n h → ⊥
apart_shakes n g h apart same = let shakes : g ≡ h = cc same in apart shakes

apart_parts : (n g h : ℕ) → PartEnd (suc n) g ≡ PartEnd n h → ⊥
apart_parts n g h same = let parts : suc n ≡ n = cc same in omega (arith, parts)

-- the number of a driving part
from_size : (n i j : ℕ) → n ≤ i → i - n ≡ j → i ≡ n + j
from_size n i j high e = omega (arith, high, e)

-- a variable that is read
abbrev read_waits : Phase → Bool
read_waits Waiting = true
read_waits p = false

abbrev DerefRow : Phase → ℕ → Row → Type 0
DerefRow p n z = ((p ≡ Rest) × (z ≡ row (Req 1) (at Waiting n) (λ v. put (Req 0) 0))) ⊎ ((p ≡ Waiting) × (z ≡ row (Ans 0) (at Rest n) (put (Ans 1))))

deref_rows : (w : ℕ) (p : Phase) (n : ℕ) → EachRow (DerefRow p n) (rows (kinds.Deref w) p n)
deref_rows w Rest n = (inl (refl, refl), tt)
deref_rows w Waiting n = (inr (refl, refl), tt)
deref_rows w p n = tt

pub reading_is_still : ReadingIsStill
reading_is_still f r c x y w is still r_type literals c_regular of_x of_y =
    driven_still f r c is still x y 0 0 (kinds.Deref w ∷ []) ReadOwn driven_x driven_y w r_type own_ends driver_asks done read_waits refl 0 w refl regular literals_x own_back
    drives
  where
    driven_x : IsDriven 0 0 (kinds.Deref w ∷ []) ReadOwn r x
    driven_x = read_is_driven w r x is.right r_type of_x.joining

    driven_y : IsDriven 0 0 (kinds.Deref w ∷ []) ReadOwn c y
    driven_y = read_is_driven w c y is.also_right (sym is.outcome ∙ r_type) of_y.joining

    regular : IsRegular r
    regular = core_regular f r c is still c_regular

    served : IsOther (length r.parts) 0 (PartEnd (length r.parts) 1)
    served = (omega arith, apart_shakes (length r.parts) 1 0 (λ e. omega (arith, e)))

    own_ends : (a b : End) → ReadOwn (length r.parts) a b → IsOther (length r.parts) 0 a × IsOther (length r.parts) 0 b
    own_ends a b own = (subst (IsOther (length r.parts) 0) (sym own.0) tt, subst (IsOther (length r.parts) 0) (sym own.1) served)

    part_first : slice_get x.parts (length r.parts) ≡ Some (kinds.Deref w)
    part_first = ap (λ (ks : List Part). slice_get ks (length r.parts)) of_x.joining.parts ∙ past_end r.parts (kinds.Deref w ∷ []) (length r.parts) 0 (omega arith)

    driver_asks : (k : Contact) × (contact_at x (PartEnd (length r.parts) 0) ≡ Some k) × (k.role ≡ Ask)
    driver_asks = (asks 0 w, ap (λ (o : Option Part). slice_get (contacts_of_part o) 0) part_first, refl)

    done : IsDone x.outcome
    done = subst IsDone (sym of_x.joining.outcome) tt

    literals_x : All LiteralFits x.parts
    literals_x = literals_joined r (lone (kinds.Deref w) 1 (Exp w) ∷ []) x of_x.joining.parts literals (reading_literals w)

    own_back : (a b : End) → ReadOwn (length r.parts) a b
        → (a0 : End) × (b0 : End) × ReadOwn (length c.parts) a0 b0 × (core_end (carried f r c x) a0 ≡ a) × (core_end (carried f r c x) b0 ≡ b)
    own_back a b own = (
      ResultEnd 0,
      PartEnd (length c.parts) 1,
      (refl, refl),
      sym own.0,
      first_new f r c is still x y 0 0 (kinds.Deref w ∷ []) ReadOwn driven_x driven_y 1 ∙ sym own.1,
    )

    On : List Pass → Tokens → Type 0
    On = Goes 0 0 (kinds.Deref w ∷ []) ReadOwn r x is.right driven_x w r_type own_ends driver_asks done read_waits refl 0 w refl regular

    at_first : (past : List Pass) (t t' : Tokens) (slot : Slot) → On past t → Does x (Fire (length r.parts) slot) t t' → On past t'
    at_first past t t' slot so (n, z, lies, fires, leads) =
        by_row (row_with (DerefRow (t.state (length r.parts)).phase (t.state (length r.parts)).number) slot (rows (kinds.Deref w) (t.state (length r.parts)).phase (t.state (length r.parts)).number) z
        (deref_rows w (t.state (length r.parts)).phase (t.state (length r.parts)).number) ((λ k. firing_of (sym part_first k) (t.state (length r.parts)) slot) ∙ fires))
      where
        by_row : (z.takes ≡ slot) × DerefRow (t.state (length r.parts)).phase (t.state (length r.parts)).number z → On past t'
        by_row (takes, inl (phase, same)) =
            drive_asks 0 0 (kinds.Deref w ∷ []) ReadOwn r x is.right driven_x w r_type own_ends driver_asks done read_waits refl 0 w refl regular past t t' 0
            (at Waiting (t.state (length r.parts)).number) (PartEnd (length r.parts) 1) Request so (subst (λ (k : Row). t' ≡ fired x (length r.parts) k n t) same leads)
            served (omega arith) (ap read_waits phase) refl
        by_row (takes, inr (phase, same)) =
            let slots : slot ≡ Ans 0 = sym takes ∙ ap (λ (k : Row). k.takes) same in
            drive_takes 0 0 (kinds.Deref w ∷ []) ReadOwn r x is.right driven_x w r_type own_ends driver_asks done read_waits refl 0 w refl regular past t t' n n
            (at Rest (t.state (length r.parts)).number) (PartEnd (length r.parts) 1) Answer so (subst (λ (k : Row). t' ≡ fired x (length r.parts) k n t) same leads)
            served (subst (λ (k : Slot). token_at x t (end_of (length r.parts) k) (way_of k) ≡ Some n) slots lies) refl

    drives : (past : List Pass) (t t' : Tokens) (i : ℕ) (slot : Slot) → On past t
        → Bits 0 0 (kinds.Deref w ∷ []) ReadOwn r x is.right driven_x w r_type own_ends driver_asks done read_waits refl 0 w refl regular t → length r.parts ≤ i
        → Does x (Fire i slot) t t' → On past t'
    drives past t t' i slot so bits high does = by_number (i - length r.parts) refl
      where
        none_fires : (o : Option Part) → slice_get x.parts i ≡ o → o ≡ None → ⊥
        none_fires o there none =
            let (n, z, lies, fires, leads) = does in
            let never : None ≡ Some z = sym (ap (λ (k : Option Part). firing_of k (t.state i) slot) (there ∙ none)) ∙ fires in cc never

        by_number : (j : ℕ) → i - length r.parts ≡ j → On past t'
        by_number zero e =
            let same : i ≡ length r.parts = omega (arith, high, e) in at_first past t t' slot so (subst (λ (k : ℕ). Does x (Fire k slot) t t') same does)
        by_number (suc j) e =
            absurd (none_fires (slice_get x.parts i) refl
            (ap (λ (ks : List Part). slice_get ks i) of_x.joining.parts ∙ past_end r.parts (kinds.Deref w ∷ []) i (suc j) (from_size (length r.parts) i (suc j) high e)))

-- and one that is written
abbrev write_waits : Phase → Bool
write_waits Writing = true
write_waits p = false

abbrev AssignRow : Phase → ℕ → Row → Type 0
AssignRow p n z =
    ((p ≡ Rest) × (z ≡ row (Req 2) (at Value n) (λ v. put (Req 0) 0)))
    ⊎ ((p ≡ Value) × (z ≡ row (Ans 0) (at Writing n) (put (Req 1))))
    ⊎ ((p ≡ Writing) × (z ≡ row (Ans 1) (at Rest n) (λ v. put (Ans 2) 0)))

assign_rows : (w : ℕ) (p : Phase) (n : ℕ) → EachRow (AssignRow p n) (rows (kinds.Assign w) p n)
assign_rows w Rest n = (inl (refl, refl), tt)
assign_rows w Value n = (inr (inl (refl, refl)), tt)
assign_rows w Writing n = (inr (inr (refl, refl)), tt)
assign_rows w p n = tt

abbrev LitRow : ℕ → Phase → ℕ → Row → Type 0
LitRow k p n z = z ≡ row (Req 0) (at Rest n) (λ v. put (Ans 0) k)

lit_rows : (w k : ℕ) (p : Phase) (n : ℕ) → EachRow (LitRow k p n) (rows (kinds.Lit w k) p n)
lit_rows w k Rest n = (refl, tt)
lit_rows w k p n = tt

pub writing_is_still : WritingIsStill
writing_is_still f r c x y w k small is still r_type literals c_regular of_x of_y =
    driven_still f r c is still x y 1 1 (kinds.Assign w ∷ kinds.Lit w k ∷ []) WriteOwn driven_x driven_y w r_type own_ends driver_asks done write_waits refl w 0 refl regular
    literals_x own_back drives
  where
    driven_x : IsDriven 1 1 (kinds.Assign w ∷ kinds.Lit w k ∷ []) WriteOwn r x
    driven_x = write_is_driven w k r x is.right r_type of_x.joining

    driven_y : IsDriven 1 1 (kinds.Assign w ∷ kinds.Lit w k ∷ []) WriteOwn c y
    driven_y = write_is_driven w k c y is.also_right (sym is.outcome ∙ r_type) of_y.joining

    regular : IsRegular r
    regular = core_regular f r c is still c_regular

    asks_number : IsOther (length r.parts) 1 (PartEnd (length r.parts) 0)
    asks_number = (omega arith, apart_shakes (length r.parts) 0 1 (λ e. omega (arith, e)))

    served : IsOther (length r.parts) 1 (PartEnd (length r.parts) 2)
    served = (omega arith, apart_shakes (length r.parts) 2 1 (λ e. omega (arith, e)))

    number : IsOther (length r.parts) 1 (PartEnd (suc (length r.parts)) 0)
    number = (omega arith, apart_parts (length r.parts) 0 1)

    own_ends : (a b : End) → WriteOwn (length r.parts) a b → IsOther (length r.parts) 1 a × IsOther (length r.parts) 1 b
    own_ends a b (inl own) = (subst (IsOther (length r.parts) 1) (sym own.0) tt, subst (IsOther (length r.parts) 1) (sym own.1) served)
    own_ends a b (inr own) = (subst (IsOther (length r.parts) 1) (sym own.0) asks_number, subst (IsOther (length r.parts) 1) (sym own.1) number)

    part_first : slice_get x.parts (length r.parts) ≡ Some (kinds.Assign w)
    part_first =
        ap (λ (ks : List Part). slice_get ks (length r.parts)) of_x.joining.parts
        ∙ past_end r.parts (kinds.Assign w ∷ kinds.Lit w k ∷ []) (length r.parts) 0 (omega arith)

    part_second : slice_get x.parts (suc (length r.parts)) ≡ Some (kinds.Lit w k)
    part_second =
        ap (λ (ks : List Part). slice_get ks (suc (length r.parts))) of_x.joining.parts
        ∙ past_end r.parts (kinds.Assign w ∷ kinds.Lit w k ∷ []) (suc (length r.parts)) 1 (omega arith)

    driver_asks : (j : Contact) × (contact_at x (PartEnd (length r.parts) 1) ≡ Some j) × (j.role ≡ Ask)
    driver_asks = (asks w 0, ap (λ (o : Option Part). slice_get (contacts_of_part o) 1) part_first, refl)

    done : IsDone x.outcome
    done = subst IsDone (sym of_x.joining.outcome) tt

    literals_x : All LiteralFits x.parts
    literals_x =
        literals_joined r (lone (kinds.Assign w) 2 Com ∷ lone (kinds.Lit w k) 0 (Exp w) ∷ []) x of_x.joining.parts literals (writing_literals w k small)

    second_new : core_end (carried f r c x) (PartEnd (suc (length c.parts)) 0) ≡ PartEnd (suc (length r.parts)) 0
    second_new =
        let one : length c.parts + 1 ≡ suc (length c.parts) = omega arith in
        let other : length r.parts + 1 ≡ suc (length r.parts) = omega arith in
        ap (λ (n : ℕ). core_end (carried f r c x) (PartEnd n 0)) (sym one)
        ∙ (behind_new f r c is still x y 1 1 (kinds.Assign w ∷ kinds.Lit w k ∷ []) WriteOwn driven_x driven_y 1 0 ∙ ap (λ (n : ℕ). PartEnd n 0) other)

    own_back : (a b : End) → WriteOwn (length r.parts) a b
        → (a0 : End) × (b0 : End) × WriteOwn (length c.parts) a0 b0 × (core_end (carried f r c x) a0 ≡ a) × (core_end (carried f r c x) b0 ≡ b)
    own_back a b (inl own) = (
      ResultEnd 0,
      PartEnd (length c.parts) 2,
      inl (refl, refl),
      sym own.0,
      first_new f r c is still x y 1 1 (kinds.Assign w ∷ kinds.Lit w k ∷ []) WriteOwn driven_x driven_y 2 ∙ sym own.1,
    )
    own_back a b (inr own) = (
      PartEnd (length c.parts) 0,
      PartEnd (suc (length c.parts)) 0,
      inr (refl, refl),
      first_new f r c is still x y 1 1 (kinds.Assign w ∷ kinds.Lit w k ∷ []) WriteOwn driven_x driven_y 0 ∙ sym own.0,
      second_new ∙ sym own.1,
    )

    On : List Pass → Tokens → Type 0
    On = Goes 1 1 (kinds.Assign w ∷ kinds.Lit w k ∷ []) WriteOwn r x is.right driven_x w r_type own_ends driver_asks done write_waits refl w 0 refl regular

    Small : Tokens → Type 0
    Small = Bits 1 1 (kinds.Assign w ∷ kinds.Lit w k ∷ []) WriteOwn r x is.right driven_x w r_type own_ends driver_asks done write_waits refl w 0 refl regular

    itself : nat_eq (length r.parts) (length r.parts) ≡ true
    itself = grind arith

    other_part : nat_eq (length r.parts) (suc (length r.parts)) ≡ false
    other_part = grind arith

    at_first : (past : List Pass) (t t' : Tokens) (slot : Slot) → On past t → Small t → Does x (Fire (length r.parts) slot) t t' → On past t'
    at_first past t t' slot so bits (n, z, lies, fires, leads) =
        by_row (row_with (AssignRow (t.state (length r.parts)).phase (t.state (length r.parts)).number) slot
        (rows (kinds.Assign w) (t.state (length r.parts)).phase (t.state (length r.parts)).number) z
        (assign_rows w (t.state (length r.parts)).phase (t.state (length r.parts)).number) ((λ j. firing_of (sym part_first j) (t.state (length r.parts)) slot) ∙ fires))
      where
        by_row : (z.takes ≡ slot) × AssignRow (t.state (length r.parts)).phase (t.state (length r.parts)).number z → On past t'
        by_row (takes, inl (phase, same)) =
            drive_silent 1 1 (kinds.Assign w ∷ kinds.Lit w k ∷ []) WriteOwn r x is.right driven_x w r_type own_ends driver_asks done write_waits refl w 0 refl regular past t t'
            0 (length r.parts) (at Value (t.state (length r.parts)).number) (PartEnd (length r.parts) 0) (PartEnd (length r.parts) 2) Request Request so (omega arith)
            (subst (λ (j : Row). t' ≡ fired x (length r.parts) j n t) same leads) asks_number served
            ((λ j. write_waits (if itself j then at Value (t.state (length r.parts)).number else t.state (length r.parts)).phase) ∙ sym (ap write_waits phase))
        by_row (takes, inr (inl (phase, same))) =
            let slots : slot ≡ Ans 0 = sym takes ∙ ap (λ (j : Row). j.takes) same in
            drive_asks 1 1 (kinds.Assign w ∷ kinds.Lit w k ∷ []) WriteOwn r x is.right driven_x w r_type own_ends driver_asks done write_waits refl w 0 refl regular past t t'
            n (at Writing (t.state (length r.parts)).number) (PartEnd (length r.parts) 0) Answer so (subst (λ (j : Row). t' ≡ fired x (length r.parts) j n t) same leads)
            asks_number
            (bits (PartEnd (length r.parts) 0) (asks 0 w) Answer n (ap (λ (o : Option Part). slice_get (contacts_of_part o) 0) part_first)
            (subst (λ (j : Slot). token_at x t (end_of (length r.parts) j) (way_of j) ≡ Some n) slots lies)) (ap write_waits phase) refl
        by_row (takes, inr (inr (phase, same))) =
            let slots : slot ≡ Ans 1 = sym takes ∙ ap (λ (j : Row). j.takes) same in
            drive_takes 1 1 (kinds.Assign w ∷ kinds.Lit w k ∷ []) WriteOwn r x is.right driven_x w r_type own_ends driver_asks done write_waits refl w 0 refl regular past t t'
            n 0 (at Rest (t.state (length r.parts)).number) (PartEnd (length r.parts) 2) Answer so (subst (λ (j : Row). t' ≡ fired x (length r.parts) j n t) same leads)
            served (subst (λ (j : Slot). token_at x t (end_of (length r.parts) j) (way_of j) ≡ Some n) slots lies) refl

    at_second : (past : List Pass) (t t' : Tokens) (slot : Slot) → On past t → Does x (Fire (suc (length r.parts)) slot) t t' → On past t'
    at_second past t t' slot so (n, z, lies, fires, leads) =
        let (takes, same) =
        row_with (LitRow k (t.state (suc (length r.parts))).phase (t.state (suc (length r.parts))).number) slot
        (rows (kinds.Lit w k) (t.state (suc (length r.parts))).phase (t.state (suc (length r.parts))).number) z
        (lit_rows w k (t.state (suc (length r.parts))).phase (t.state (suc (length r.parts))).number)
        ((λ j. firing_of (sym part_second j) (t.state (suc (length r.parts))) slot) ∙ fires)
        in
        drive_silent 1 1 (kinds.Assign w ∷ kinds.Lit w k ∷ []) WriteOwn r x is.right driven_x w r_type own_ends driver_asks done write_waits refl w 0 refl regular past t t' k
        (suc (length r.parts)) (at Rest (t.state (suc (length r.parts))).number) (PartEnd (suc (length r.parts)) 0) (PartEnd (suc (length r.parts)) 0) Answer Request so
        (omega arith) (subst (λ (j : Row). t' ≡ fired x (suc (length r.parts)) j n t) same leads) number number
        (λ j. write_waits (if other_part j then at Rest (t.state (suc (length r.parts))).number else t.state (length r.parts)).phase)

    drives : (past : List Pass) (t t' : Tokens) (i : ℕ) (slot : Slot) → On past t → Small t → length r.parts ≤ i → Does x (Fire i slot) t t' → On past t'
    drives past t t' i slot so bits high does = by_number (i - length r.parts) refl
      where
        none_fires : (o : Option Part) → slice_get x.parts i ≡ o → o ≡ None → ⊥
        none_fires o there none =
            let (n, z, lies, fires, leads) = does in
            let never : None ≡ Some z = sym (ap (λ (j : Option Part). firing_of j (t.state i) slot) (there ∙ none)) ∙ fires in cc never

        by_number : (j : ℕ) → i - length r.parts ≡ j → On past t'
        by_number zero e =
            let same : i ≡ length r.parts = omega (arith, high, e) in at_first past t t' slot so bits (subst (λ (j : ℕ). Does x (Fire j slot) t t') same does)
        by_number (suc zero) e =
            let same : i ≡ suc (length r.parts) = omega (arith, high, e) in at_second past t t' slot so (subst (λ (j : ℕ). Does x (Fire j slot) t t') same does)
        by_number (suc (suc j)) e =
            absurd (none_fires (slice_get x.parts i) refl
            (ap (λ (ks : List Part). slice_get ks i) of_x.joining.parts
            ∙ past_end r.parts (kinds.Assign w ∷ kinds.Lit w k ∷ []) i (suc (suc j)) (from_size (length r.parts) i (suc (suc j)) high e)))
