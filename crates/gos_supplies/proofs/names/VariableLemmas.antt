-- The plan of a variable's name is regular: a track that is entered by a read or by a write.
use Rattle.std.specs.Prelude.{◌≡◌, ℕ, zero, suc, ◌<◌, ◌&&◌, ◌||◌, Bool, true, false, List, ◌⊎◌, Option, Some, None}
use Rattle.std.proofs.Common.{refl, sym, ◌∙◌, ap, subst, arith, inl, inr}
use Rattle.std.proofs.lemmas.Bool.{and_right}
use Rattle.gos_types.specs.Events.{Direction, Request, Answer}
use Rattle.gos_types.specs.Types.{Var}
use Rattle.gos_types.proofs.BoolLemmas.{true_is_not_false}
use Rattle.gos_model.specs.Terms.{Name}
use Rattle.gos_plan.specs.Kinds.{Contact, asks, serves}
use Rattle.gos_plan.specs.Firing.{Rest, Slot, Req, Ans}
use Rattle.gos_plan.specs.Plans.{End, PartEnd, ImportEnd, ResultEnd, contact_at}
use Rattle.gos_plan.specs.Tokens.{Tokens, Element, Fire, Out, In, with_place, way_taken, way_put, Does}
use Rattle.gos_plan.specs.Orderly.{Open, with_open, after_taken, after_put, ComesWell, ComesInOrder, AllWelcome}
use Rattle.gos_realises.specs.realises.Regular.{Pass, pass, way_in, is_open, KeepsTurns, IsRegular}
use Rattle.gos_realises.proofs.realises.OneJointLemmas.{not_both}
use Rattle.gos_realises.proofs.realises.RingLemmas.{after, OutputTurns, IsFirst}
use Rattle.gos_supplies.specs.names.Names.{name_plan}
use Rattle.gos_supplies.proofs.names.PlaceLemmas.{Places, nowhere, placed_at, Holds, put_there, emptied}
use Rattle.gos_supplies.proofs.names.TrackLemmas.{IsTrack, track_is_regular}

data Stage : Type 0 where
  Resting Asked Reading : Stage
  Read Writing : (v : ℕ) → Stage
  Away Written : Stage

abbrev places : Stage → Places
places Resting = nowhere
places Asked = placed_at Request (ResultEnd 0) (Some 0) nowhere
places Reading = nowhere
places (Read v) = placed_at Answer (ResultEnd 0) (Some v) nowhere
places (Writing v) = placed_at Request (ResultEnd 1) (Some v) nowhere
places Away = nowhere
places Written = placed_at Answer (ResultEnd 1) (Some 0) nowhere

abbrev Next : ℕ → Stage → Element → Type 0
Next w Resting x = (x ≡ In (ResultEnd 0) 0) ⊎ ((v : ℕ) × (x ≡ In (ResultEnd 1) v))
Next w Asked x = x ≡ Out (ImportEnd 0 0) 0
Next w Reading x = (v : ℕ) × (x ≡ In (ImportEnd 0 0) v)
Next w (Read v) x = x ≡ Out (ResultEnd 0) v
Next w (Writing v) x = x ≡ Out (ImportEnd 0 1) v
Next w Away x = x ≡ In (ImportEnd 0 1) 0
Next w Written x = x ≡ Out (ResultEnd 1) 0

-- a request at the result's first handshake reads, and one at the second writes
abbrev begins : Element → Stage
begins (Fire i t) = Resting
begins (Out e v) = Resting
begins (In (PartEnd i h) v) = Resting
begins (In (ImportEnd i h) v) = Resting
begins (In (ResultEnd zero) v) = Asked
begins (In (ResultEnd (suc h)) v) = Writing v

abbrev number_of : Element → ℕ
number_of (Fire i t) = 0
number_of (Out e v) = v
number_of (In e v) = v

abbrev succ : Stage → Element → Stage
succ Resting x = begins x
succ Asked x = Reading
succ Reading x = Read (number_of x)
succ (Read v) x = Resting
succ (Writing v) x = Away
succ Away x = Written
succ Written x = Resting

abbrev At : Stage → Tokens → Type 0
At q s = Holds (places q) Rest s

abbrev Both : Bool → Bool → Open → Type 0
Both read write o = (o (ResultEnd 0) ≡ read) × (o (ResultEnd 1) ≡ write)

abbrev OpenAt : Stage → Open → Type 0
OpenAt Resting o = Both false false o
OpenAt Asked o = Both true false o
OpenAt Reading o = Both true false o
OpenAt (Read v) o = Both true false o
OpenAt (Writing v) o = Both false true o
OpenAt Away o = Both false true o
OpenAt Written o = Both false true o

-- the handshakes of the result, and of the import
abbrev Ports : Bool → Bool → Bool → Bool → (End → Bool) → Type 0
Ports read write asked written f =
    (f (ResultEnd 0) ≡ read) × (f (ResultEnd 1) ≡ write) × (f (ImportEnd 0 0) ≡ asked) × (f (ImportEnd 0 1) ≡ written)

abbrev Opened : Stage → (End → Bool) → Type 0
Opened Resting f = Ports false false false false f
Opened Asked f = Ports true false false false f
Opened Reading f = Ports true false true false f
Opened (Read v) f = Ports true false false false f
Opened (Writing v) f = Ports false true false false f
Opened Away f = Ports false true false true f
Opened Written f = Ports false true false false f

-- the four ends with the joint at which each stands, and where tokens go
data IsOut (s u : Tokens) : End → ℕ → Type 0 where
  answers : (v : ℕ) → s.in_place Answer (ResultEnd 0) ≡ Some v → u ≡ with_place Answer (ResultEnd 0) None s → IsOut s u (ResultEnd 0) v
  is_written : (v : ℕ) → s.in_place Answer (ResultEnd 1) ≡ Some v → u ≡ with_place Answer (ResultEnd 1) None s → IsOut s u (ResultEnd 1) v
  reads : (v : ℕ) → s.in_place Request (ResultEnd 0) ≡ Some v → u ≡ with_place Request (ResultEnd 0) None s → IsOut s u (ImportEnd 0 0) v
  writes : (v : ℕ) → s.in_place Request (ResultEnd 1) ≡ Some v → u ≡ with_place Request (ResultEnd 1) None s → IsOut s u (ImportEnd 0 1) v

data IsIn (s u : Tokens) : End → ℕ → Type 0 where
  read : (v : ℕ) → v ≡ 0 → u ≡ with_place Request (ResultEnd 0) (Some v) s → IsIn s u (ResultEnd 0) v
  write : (v : ℕ) → u ≡ with_place Request (ResultEnd 1) (Some v) s → IsIn s u (ResultEnd 1) v
  number : (v : ℕ) → u ≡ with_place Answer (ResultEnd 0) (Some v) s → IsIn s u (ImportEnd 0 0) v
  done : (v : ℕ) → v ≡ 0 → u ≡ with_place Answer (ResultEnd 1) (Some v) s → IsIn s u (ImportEnd 0 1) v

module _ (n : Name) (w : ℕ) where
  out_of : (e : End) (v : ℕ) (s u : Tokens) → Does (name_plan n (Var w)) (Out e v) s u → IsOut s u e v
  out_of (PartEnd i h) v s u does = absurd does.0
  out_of (ImportEnd zero zero) v s u does = reads v does.1.0 does.1.1
  out_of (ImportEnd zero (suc zero)) v s u does = writes v does.1.0 does.1.1
  out_of (ImportEnd zero (suc (suc h))) v s u does = absurd does.1
  out_of (ImportEnd (suc i) h) v s u does = absurd does.1
  out_of (ResultEnd zero) v s u does = answers v does.1.0 does.1.1
  out_of (ResultEnd (suc zero)) v s u does = is_written v does.1.0 does.1.1
  out_of (ResultEnd (suc (suc h))) v s u does = absurd does.1

  in_of : (e : End) (v : ℕ) (s u : Tokens) → Does (name_plan n (Var w)) (In e v) s u → IsIn s u e v
  in_of (PartEnd i h) v s u does = absurd does.0
  in_of (ImportEnd zero zero) v s u does = number v does.1.1
  in_of (ImportEnd zero (suc zero)) v s u does = let small : v < 1 = does.1.0 in done v (omega (arith, small)) does.1.1
  in_of (ImportEnd zero (suc (suc h))) v s u does = absurd does.1
  in_of (ImportEnd (suc i) h) v s u does = absurd does.1
  in_of (ResultEnd zero) v s u does = let small : v < 1 = does.1.0 in read v (omega (arith, small)) does.1.1
  in_of (ResultEnd (suc zero)) v s u does = write v does.1.1
  in_of (ResultEnd (suc (suc h))) v s u does = absurd does.1

  taken_out : (way : Direction) (e : End) (held : Option ℕ) (s u : Tokens)
      → Holds (placed_at way e held nowhere) Rest s → u ≡ with_place way e None s → Holds nowhere Rest u
  taken_out way e held s u here to =
      emptied way e held Rest u (subst (Holds (placed_at way e None (placed_at way e held nowhere)) Rest) (sym to) (put_there way e None (placed_at way e held nowhere) Rest s here))

  put_in : (way : Direction) (e : End) (held : Option ℕ) (s u : Tokens)
      → Holds nowhere Rest s → u ≡ with_place way e held s → Holds (placed_at way e held nowhere) Rest u
  put_in way e held s u here to = subst (Holds (placed_at way e held nowhere) Rest) (sym to) (put_there way e held nowhere Rest s here)

  does_as : (x y : Element) (s u : Tokens) → x ≡ y → Does (name_plan n (Var w)) x s u → Does (name_plan n (Var w)) y s u
  does_as x y s u e does = subst (λ (z : Element). Does (name_plan n (Var w)) z s u) e does

  -- a stage that the element tells, told by the same element
  from_element : (q : Stage) (x y : Element) (u : Tokens) → x ≡ y → At (succ q y) u → At (succ q x) u
  from_element q x y u e here = subst (λ (z : Element). At (succ q z) u) (sym e) here

  leads : (q : Stage) (x : Element) (s u : Tokens) → Next w q x → At q s → Does (name_plan n (Var w)) x s u → At (succ q x) u
  leads Resting x s u (inl next) here does =
      from_element Resting x (In (ResultEnd 0) 0) u next
      (put_in Request (ResultEnd 0) (Some 0) s u here (does_as x (In (ResultEnd 0) 0) s u next does).1.1)
  leads Resting x s u (inr (v, next)) here does =
      from_element Resting x (In (ResultEnd 1) v) u next
      (put_in Request (ResultEnd 1) (Some v) s u here (does_as x (In (ResultEnd 1) v) s u next does).1.1)
  leads Asked x s u next here does = taken_out Request (ResultEnd 0) (Some 0) s u here (does_as x (Out (ImportEnd 0 0) 0) s u next does).1.1
  leads Reading x s u (v, next) here does =
      from_element Reading x (In (ImportEnd 0 0) v) u next
      (put_in Answer (ResultEnd 0) (Some v) s u here (does_as x (In (ImportEnd 0 0) v) s u next does).1.1)
  leads (Read v) x s u next here does = taken_out Answer (ResultEnd 0) (Some v) s u here (does_as x (Out (ResultEnd 0) v) s u next does).1.1
  leads (Writing v) x s u next here does = taken_out Request (ResultEnd 1) (Some v) s u here (does_as x (Out (ImportEnd 0 1) v) s u next does).1.1
  leads Away x s u next here does = put_in Answer (ResultEnd 1) (Some 0) s u here (does_as x (In (ImportEnd 0 1) 0) s u next does).1.1
  leads Written x s u next here does = taken_out Answer (ResultEnd 1) (Some 0) s u here (does_as x (Out (ResultEnd 1) 0) s u next does).1.1

  gone : (q : Stage) (way : Direction) (e : End) (v : ℕ) (s : Tokens) → At q s → places q way e ≡ None → s.in_place way e ≡ Some v → ⊥
  gone q way e v s here none lies = not_both (s.in_place way e) v (here.lies way e ∙ none) lies

  lies_is : (q : Stage) (way : Direction) (e : End) (v k : ℕ) (s : Tokens) → At q s → places q way e ≡ Some k → s.in_place way e ≡ Some v → v ≡ k
  lies_is q way e v k s here is lies = let both : Some v ≡ Some k = sym lies ∙ (here.lies way e ∙ is) in cc both

  by_output : (q : Stage) (e : End) (v : ℕ) (s u : Tokens) → At q s → IsOut s u e v → Next w q (Out e v)
  by_output Resting _ _ s u here (answers v lies to) = absurd (gone Resting Answer (ResultEnd 0) v s here refl lies)
  by_output Resting _ _ s u here (is_written v lies to) = absurd (gone Resting Answer (ResultEnd 1) v s here refl lies)
  by_output Resting _ _ s u here (reads v lies to) = absurd (gone Resting Request (ResultEnd 0) v s here refl lies)
  by_output Resting _ _ s u here (writes v lies to) = absurd (gone Resting Request (ResultEnd 1) v s here refl lies)
  by_output Asked _ _ s u here (answers v lies to) = absurd (gone Asked Answer (ResultEnd 0) v s here refl lies)
  by_output Asked _ _ s u here (is_written v lies to) = absurd (gone Asked Answer (ResultEnd 1) v s here refl lies)
  by_output Asked _ _ s u here (reads v lies to) = ap (Out (ImportEnd 0 0)) (lies_is Asked Request (ResultEnd 0) v 0 s here refl lies)
  by_output Asked _ _ s u here (writes v lies to) = absurd (gone Asked Request (ResultEnd 1) v s here refl lies)
  by_output Reading _ _ s u here (answers v lies to) = absurd (gone Reading Answer (ResultEnd 0) v s here refl lies)
  by_output Reading _ _ s u here (is_written v lies to) = absurd (gone Reading Answer (ResultEnd 1) v s here refl lies)
  by_output Reading _ _ s u here (reads v lies to) = absurd (gone Reading Request (ResultEnd 0) v s here refl lies)
  by_output Reading _ _ s u here (writes v lies to) = absurd (gone Reading Request (ResultEnd 1) v s here refl lies)
  by_output (Read k) _ _ s u here (answers v lies to) = ap (Out (ResultEnd 0)) (lies_is (Read k) Answer (ResultEnd 0) v k s here refl lies)
  by_output (Read k) _ _ s u here (is_written v lies to) = absurd (gone (Read k) Answer (ResultEnd 1) v s here refl lies)
  by_output (Read k) _ _ s u here (reads v lies to) = absurd (gone (Read k) Request (ResultEnd 0) v s here refl lies)
  by_output (Read k) _ _ s u here (writes v lies to) = absurd (gone (Read k) Request (ResultEnd 1) v s here refl lies)
  by_output (Writing k) _ _ s u here (answers v lies to) = absurd (gone (Writing k) Answer (ResultEnd 0) v s here refl lies)
  by_output (Writing k) _ _ s u here (is_written v lies to) = absurd (gone (Writing k) Answer (ResultEnd 1) v s here refl lies)
  by_output (Writing k) _ _ s u here (reads v lies to) = absurd (gone (Writing k) Request (ResultEnd 0) v s here refl lies)
  by_output (Writing k) _ _ s u here (writes v lies to) = ap (Out (ImportEnd 0 1)) (lies_is (Writing k) Request (ResultEnd 1) v k s here refl lies)
  by_output Away _ _ s u here (answers v lies to) = absurd (gone Away Answer (ResultEnd 0) v s here refl lies)
  by_output Away _ _ s u here (is_written v lies to) = absurd (gone Away Answer (ResultEnd 1) v s here refl lies)
  by_output Away _ _ s u here (reads v lies to) = absurd (gone Away Request (ResultEnd 0) v s here refl lies)
  by_output Away _ _ s u here (writes v lies to) = absurd (gone Away Request (ResultEnd 1) v s here refl lies)
  by_output Written _ _ s u here (answers v lies to) = absurd (gone Written Answer (ResultEnd 0) v s here refl lies)
  by_output Written _ _ s u here (is_written v lies to) = ap (Out (ResultEnd 1)) (lies_is Written Answer (ResultEnd 1) v 0 s here refl lies)
  by_output Written _ _ s u here (reads v lies to) = absurd (gone Written Request (ResultEnd 0) v s here refl lies)
  by_output Written _ _ s u here (writes v lies to) = absurd (gone Written Request (ResultEnd 1) v s here refl lies)

  -- what must be open or shut for each input
  abbrev Asks : List Pass → End → Type 0
  Asks past e = KeepsTurns (name_plan n (Var w)) past (pass e (way_in (contact_at (name_plan n (Var w)) e)))

  left_shut : (a : Bool) → (a && true) ≡ false → a ≡ false
  left_shut true e = e
  left_shut false e = refl

  -- nothing is asked while one of the two is open
  no_request : (x y : Bool) (past : List Pass) → Asks past (ResultEnd 0) → is_open past (ResultEnd 0) ≡ x → is_open past (ResultEnd 1) ≡ y
      → (x || y) ≡ true → ⊥
  no_request true y past asks a b e = true_is_not_false (is_open past (ResultEnd 0)) a asks.0
  no_request false true past asks a b e = true_is_not_false (is_open past (ResultEnd 1)) b asks.1.1
  no_request false false past asks a b e = cc e

  no_write : (x y : Bool) (past : List Pass) → Asks past (ResultEnd 1) → is_open past (ResultEnd 0) ≡ x → is_open past (ResultEnd 1) ≡ y
      → (x || y) ≡ true → ⊥
  no_write true y past asks a b e =
      true_is_not_false (is_open past (ResultEnd 0)) a (left_shut (is_open past (ResultEnd 0)) asks.1.1)
  no_write false true past asks a b e = true_is_not_false (is_open past (ResultEnd 1)) b asks.0
  no_write false false past asks a b e = cc e

  no_answer : (past : List Pass) (e : End) (b : Bool) → is_open past e ≡ true → is_open past e ≡ b → b ≡ false → ⊥
  no_answer past e b up is shut = true_is_not_false (is_open past e) up (is ∙ shut)

  by_input : (q : Stage) (e : End) (v : ℕ) (s u : Tokens) (past : List Pass) → Opened q (is_open past) → IsIn s u e v → Asks past e → Next w q (In e v)
  by_input Resting _ _ s u past o (read v none to) asks = inl (ap (In (ResultEnd 0)) none)
  by_input Resting _ _ s u past o (write v to) asks = inr (v, refl)
  by_input Resting _ _ s u past o (number v to) asks = absurd (no_answer past (ImportEnd 0 0) false asks.0 o.2 refl)
  by_input Resting _ _ s u past o (done v none to) asks = absurd (no_answer past (ImportEnd 0 1) false asks.0 o.3 refl)
  by_input Asked _ _ s u past o (read v none to) asks = absurd (no_request true false past asks o.0 o.1 refl)
  by_input Asked _ _ s u past o (write v to) asks = absurd (no_write true false past asks o.0 o.1 refl)
  by_input Asked _ _ s u past o (number v to) asks = absurd (no_answer past (ImportEnd 0 0) false asks.0 o.2 refl)
  by_input Asked _ _ s u past o (done v none to) asks = absurd (no_answer past (ImportEnd 0 1) false asks.0 o.3 refl)
  by_input Reading _ _ s u past o (read v none to) asks = absurd (no_request true false past asks o.0 o.1 refl)
  by_input Reading _ _ s u past o (write v to) asks = absurd (no_write true false past asks o.0 o.1 refl)
  by_input Reading _ _ s u past o (number v to) asks = (v, refl)
  by_input Reading _ _ s u past o (done v none to) asks = absurd (no_answer past (ImportEnd 0 1) false asks.0 o.3 refl)
  by_input (Read k) _ _ s u past o (read v none to) asks = absurd (no_request true false past asks o.0 o.1 refl)
  by_input (Read k) _ _ s u past o (write v to) asks = absurd (no_write true false past asks o.0 o.1 refl)
  by_input (Read k) _ _ s u past o (number v to) asks = absurd (no_answer past (ImportEnd 0 0) false asks.0 o.2 refl)
  by_input (Read k) _ _ s u past o (done v none to) asks = absurd (no_answer past (ImportEnd 0 1) false asks.0 o.3 refl)
  by_input (Writing k) _ _ s u past o (read v none to) asks = absurd (no_request false true past asks o.0 o.1 refl)
  by_input (Writing k) _ _ s u past o (write v to) asks = absurd (no_write false true past asks o.0 o.1 refl)
  by_input (Writing k) _ _ s u past o (number v to) asks = absurd (no_answer past (ImportEnd 0 0) false asks.0 o.2 refl)
  by_input (Writing k) _ _ s u past o (done v none to) asks = absurd (no_answer past (ImportEnd 0 1) false asks.0 o.3 refl)
  by_input Away _ _ s u past o (read v none to) asks = absurd (no_request false true past asks o.0 o.1 refl)
  by_input Away _ _ s u past o (write v to) asks = absurd (no_write false true past asks o.0 o.1 refl)
  by_input Away _ _ s u past o (number v to) asks = absurd (no_answer past (ImportEnd 0 0) false asks.0 o.2 refl)
  by_input Away _ _ s u past o (done v none to) asks = ap (In (ImportEnd 0 1)) none
  by_input Written _ _ s u past o (read v none to) asks = absurd (no_request false true past asks o.0 o.1 refl)
  by_input Written _ _ s u past o (write v to) asks = absurd (no_write false true past asks o.0 o.1 refl)
  by_input Written _ _ s u past o (number v to) asks = absurd (no_answer past (ImportEnd 0 0) false asks.0 o.2 refl)
  by_input Written _ _ s u past o (done v none to) asks = absurd (no_answer past (ImportEnd 0 1) false asks.0 o.3 refl)

  passed : (q : Stage) (x : Element) (past : List Pass)
      → Next w q x → Opened q (is_open past) → Opened (succ q x) (is_open (after (name_plan n (Var w)) x past))
  passed Resting x past (inl next) o =
      subst (λ (y : Element). Opened (begins y) (is_open (after (name_plan n (Var w)) y past))) (sym next) (refl, o.1, o.2, o.3)
  passed Resting x past (inr (v, next)) o =
      subst (λ (y : Element). Opened (begins y) (is_open (after (name_plan n (Var w)) y past))) (sym next) (o.0, refl, o.2, o.3)
  passed Asked x past next o =
      subst (λ (y : Element). Opened Reading (is_open (after (name_plan n (Var w)) y past))) (sym next) (o.0, o.1, refl, o.3)
  passed Reading x past (v, next) o =
      subst (λ (y : Element). Opened (Read 0) (is_open (after (name_plan n (Var w)) y past))) (sym next) (o.0, o.1, refl, o.3)
  passed (Read v) x past next o =
      subst (λ (y : Element). Opened Resting (is_open (after (name_plan n (Var w)) y past))) (sym next) (refl, o.1, o.2, o.3)
  passed (Writing v) x past next o =
      subst (λ (y : Element). Opened Away (is_open (after (name_plan n (Var w)) y past))) (sym next) (o.0, o.1, o.2, refl)
  passed Away x past next o =
      subst (λ (y : Element). Opened Written (is_open (after (name_plan n (Var w)) y past))) (sym next) (o.0, o.1, o.2, refl)
  passed Written x past next o =
      subst (λ (y : Element). Opened Resting (is_open (after (name_plan n (Var w)) y past))) (sym next) (o.0, refl, o.2, o.3)

  -- what is open of two handshakes
  either : (a b : Bool) → (a ≡ true) ⊎ (b ≡ true) → (b || (a || false)) ≡ true
  either true true e = refl
  either true false e = refl
  either false true e = refl
  either false false (inl e) = e
  either false false (inr e) = e

  none_open : (a b : Bool) → a ≡ false → b ≡ false → (b || (a || false)) ≡ true → ⊥
  none_open true b e f g = cc e
  none_open false true e f g = cc f
  none_open false false e f g = cc g

  not_both_left : (a b : Bool) → a ≡ false → (a && b) ≡ false
  not_both_left true b e = cc e
  not_both_left false b e = refl

  turns : (q : Stage) (x : Element) (past : List Pass) → Next w q x → Opened q (is_open past) → OutputTurns (name_plan n (Var w)) past x
  turns Resting x past (inl next) o = subst (OutputTurns (name_plan n (Var w)) past) (sym next) tt
  turns Resting x past (inr (v, next)) o = subst (OutputTurns (name_plan n (Var w)) past) (sym next) tt
  turns Reading x past (v, next) o = subst (OutputTurns (name_plan n (Var w)) past) (sym next) tt
  turns Away x past next o = subst (OutputTurns (name_plan n (Var w)) past) (sym next) tt
  turns Asked x past next o =
      subst (OutputTurns (name_plan n (Var w)) past) (sym next) (
        o.2,
        (
          o.3,
          and_right (is_open past (ResultEnd 0)) (is_open past (ResultEnd 1)) o.1,
          λ asked. either (is_open past (ResultEnd 0)) (is_open past (ResultEnd 1)) (inl o.0),
        ),
      )
  turns (Writing v) x past next o =
      subst (OutputTurns (name_plan n (Var w)) past) (sym next) (
        o.3,
        (
          not_both_left (is_open past (ImportEnd 0 0)) true o.2,
          not_both_left (is_open past (ResultEnd 0)) (is_open past (ResultEnd 1)) o.0,
          λ asked. either (is_open past (ResultEnd 0)) (is_open past (ResultEnd 1)) (inr o.1),
        ),
      )
  turns (Read v) x past next o =
      subst (OutputTurns (name_plan n (Var w)) past) (sym next) (
        o.0,
        (
          and_right (is_open past (ImportEnd 0 0)) (is_open past (ImportEnd 0 1)) o.3,
          refl,
          λ asked. absurd (none_open (is_open past (ImportEnd 0 0)) (is_open past (ImportEnd 0 1)) o.2 o.3 asked),
        ),
      )
  turns Written x past next o =
      subst (OutputTurns (name_plan n (Var w)) past) (sym next) (
        o.1,
        (
          and_right (is_open past (ImportEnd 0 0)) (is_open past (ImportEnd 0 1)) o.3,
          not_both_left (is_open past (ResultEnd 0)) false o.0,
          λ asked. absurd (none_open (is_open past (ImportEnd 0 0)) (is_open past (ImportEnd 0 1)) o.2 o.3 asked),
        ),
      )

  -- a request opens, an answer that is put comes on an open handshake whose joint is empty, and one that is taken closes
  read_comes : (s : Tokens) (o : Open) → o (ResultEnd 0) ≡ false → ComesInOrder (name_plan n (Var w)) (In (ResultEnd 0) 0) s o (with_open (ResultEnd 0) true o)
  read_comes s o now c there =
      let is : asks 0 w ≡ c = cc there in
      subst (λ (d : Contact). ComesWell (name_plan n (Var w)) (ResultEnd 0) (way_put d.role) o s × (with_open (ResultEnd 0) true o ≡ after_put (name_plan n (Var w)) (ResultEnd 0) (way_put d.role) o)) is
      (now, refl)

  write_comes : (v : ℕ) (s : Tokens) (o : Open) → o (ResultEnd 1) ≡ false → ComesInOrder (name_plan n (Var w)) (In (ResultEnd 1) v) s o (with_open (ResultEnd 1) true o)
  write_comes v s o now c there =
      let is : asks w 0 ≡ c = cc there in
      subst (λ (d : Contact). ComesWell (name_plan n (Var w)) (ResultEnd 1) (way_put d.role) o s × (with_open (ResultEnd 1) true o ≡ after_put (name_plan n (Var w)) (ResultEnd 1) (way_put d.role) o)) is
      (now, refl)

  read_goes : (v : ℕ) (s : Tokens) (o : Open) → ComesInOrder (name_plan n (Var w)) (Out (ImportEnd 0 0) v) s o o
  read_goes v s o c there =
      let is : serves 0 w ≡ c = cc there in
      subst (λ (d : Contact). o ≡ after_taken (name_plan n (Var w)) (ImportEnd 0 0) (way_taken d.role) o) is refl

  write_goes : (v : ℕ) (s : Tokens) (o : Open) → ComesInOrder (name_plan n (Var w)) (Out (ImportEnd 0 1) v) s o o
  write_goes v s o c there =
      let is : serves w 0 ≡ c = cc there in
      subst (λ (d : Contact). o ≡ after_taken (name_plan n (Var w)) (ImportEnd 0 1) (way_taken d.role) o) is refl

  number_comes : (v : ℕ) (s : Tokens) (o : Open) → o (ResultEnd 0) ≡ true → Holds nowhere Rest s → ComesInOrder (name_plan n (Var w)) (In (ImportEnd 0 0) v) s o o
  number_comes v s o now here c there =
      let is : serves 0 w ≡ c = cc there in
      subst (λ (d : Contact). ComesWell (name_plan n (Var w)) (ImportEnd 0 0) (way_put d.role) o s × (o ≡ after_put (name_plan n (Var w)) (ImportEnd 0 0) (way_put d.role) o)) is
      ((now, λ way. here.lies way (ResultEnd 0)), refl)

  done_comes : (s : Tokens) (o : Open) → o (ResultEnd 1) ≡ true → Holds nowhere Rest s → ComesInOrder (name_plan n (Var w)) (In (ImportEnd 0 1) 0) s o o
  done_comes s o now here c there =
      let is : serves w 0 ≡ c = cc there in
      subst (λ (d : Contact). ComesWell (name_plan n (Var w)) (ImportEnd 0 1) (way_put d.role) o s × (o ≡ after_put (name_plan n (Var w)) (ImportEnd 0 1) (way_put d.role) o)) is
      ((now, λ way. here.lies way (ResultEnd 1)), refl)

  answer_goes : (v : ℕ) (s : Tokens) (o : Open) → ComesInOrder (name_plan n (Var w)) (Out (ResultEnd 0) v) s o (with_open (ResultEnd 0) false o)
  answer_goes v s o c there =
      let is : asks 0 w ≡ c = cc there in
      subst (λ (d : Contact). with_open (ResultEnd 0) false o ≡ after_taken (name_plan n (Var w)) (ResultEnd 0) (way_taken d.role) o) is refl

  done_goes : (s : Tokens) (o : Open) → ComesInOrder (name_plan n (Var w)) (Out (ResultEnd 1) 0) s o (with_open (ResultEnd 1) false o)
  done_goes s o c there =
      let is : asks w 0 ≡ c = cc there in
      subst (λ (d : Contact). with_open (ResultEnd 1) false o ≡ after_taken (name_plan n (Var w)) (ResultEnd 1) (way_taken d.role) o) is refl

  -- what is open after an element, and that it comes in order
  abbrev Comes : Stage → Tokens → Open → Element → Type 0
  Comes q s o x = (u : Open) × ComesInOrder (name_plan n (Var w)) x s o u × OpenAt (succ q x) u

  comes : (q : Stage) (x : Element) (s u : Tokens) (o : Open)
      → Next w q x → At q s → OpenAt q o → Does (name_plan n (Var w)) x s u → Comes q s o x
  comes Resting x s u o (inl next) here now does =
      subst (Comes Resting s o) (sym next) (with_open (ResultEnd 0) true o, read_comes s o now.0, (refl, now.1))
  comes Resting x s u o (inr (v, next)) here now does =
      subst (Comes Resting s o) (sym next) (with_open (ResultEnd 1) true o, write_comes v s o now.1, (now.0, refl))
  comes Asked x s u o next here now does = subst (Comes Asked s o) (sym next) (o, read_goes 0 s o, now)
  comes Reading x s u o (v, next) here now does = subst (Comes Reading s o) (sym next) (o, number_comes v s o now.0 here, now)
  comes (Read v) x s u o next here now does =
      subst (Comes (Read v) s o) (sym next) (with_open (ResultEnd 0) false o, answer_goes v s o, (refl, now.1))
  comes (Writing v) x s u o next here now does = subst (Comes (Writing v) s o) (sym next) (o, write_goes v s o, now)
  comes Away x s u o next here now does = subst (Comes Away s o) (sym next) (o, done_comes s o now.1 here, now)
  comes Written x s u o next here now does =
      subst (Comes Written s o) (sym next) (with_open (ResultEnd 1) false o, done_goes s o, (now.0, refl))

  welcome : (q : Stage) (s : Tokens) → At q s → AllWelcome (name_plan n (Var w)) s
  welcome q s here i (Req h) k v there way lies = absurd (cc there)
  welcome q s here i (Ans h) k v there way lies = absurd (cc there)

  no_part : (i : ℕ) (t : Slot) (s u : Tokens) → Does (name_plan n (Var w)) (Fire i t) s u → ⊥
  no_part i t s u (v, r, lies, fires, leads) = cc fires

  track : IsTrack (name_plan n (Var w)) Stage (Next w) succ At OpenAt Opened
  track =
      record {
        leads = leads;
        fires = λ q i t s u here does. absurd (no_part i t s u does);
        puts_out = λ q e v s u here does. by_output q e v s u here (out_of e v s u does);
        in_turn = λ q e v s u past does o here asks. by_input q e v s u past o (in_of e v s u does) asks;
        passed = passed;
        turns = turns;
        comes = comes;
        welcome = welcome;
      }

  first : IsFirst (name_plan n (Var w)) Stage At OpenAt Opened Resting
  first =
      record {
        rests = λ s idle. record { lies = λ way e. idle.0 way e; first = idle.1 0; others = λ i. idle.1 (suc i) };
        none = (refl, refl);
        closed = (refl, refl, refl, refl);
      }

  pub variable_is_regular : IsRegular (name_plan n (Var w))
  variable_is_regular = track_is_regular (name_plan n (Var w)) Stage (Next w) succ At OpenAt Opened track Resting first
