-- How `M || N` stands while its sides run: each has a store of its own, and the whole holds both under renamings that give no
-- location twice (`Stand`). An inner move of a side is a move of the whole (`stand_left`, `stand_right`).
--
-- A side that has ended stands as a term that unfolds to `skip`, since no move of the whole unfolds it.
use Rattle.std.specs.Prelude.{◌≡◌, ◌≢◌, ℕ, List, [], ◌∷◌, Option, Some, None}
use Rattle.std.proofs.Common.{refl, sym, subst}
use Rattle.gos_model.specs.Terms.{Term, Skip, Par}
use Rattle.gos_model.specs.Stores.{Store}
use Rattle.gos_model.specs.Moves.{Program, Config, Idle, Running, Act, Unfoldings, Moves}
use Rattle.gos_model.proofs.MoveLemmas.{no_moves}
use Rattle.gos_plan.specs.Firing.{Phase, Rest, Both, LeftOnly, RightOnly}
use Rattle.gos_programs.specs.contexts.Contexts.{Context, ParLeft, ParRight, plug}
use Rattle.gos_programs.specs.contexts.Plugged.{AreInner}
use Rattle.gos_programs.specs.contexts.Renaming.{renamed, IsInjective, IsFreeOf, beside}
use Rattle.gos_programs.specs.contexts.Widening.{AreAmong}
use Rattle.gos_programs.specs.contexts.Together.{Holds}
use Rattle.gos_programs.proofs.contexts.TogetherLemmas.{holds_both, moves_together}
use Rattle.gos_programs.proofs.contexts.InnerLemmas.{idle_inner}
use Rattle.gos_programs.proofs.contexts.SilentLemmas.{inner_stays}

-- one side runs, and the other has ended
pub record One (ctx : Term → Context) (own c : Config) : Type 0 where
  pub term : Term
  pub other : Term
  pub store : Store
  pub rest : Store
  pub whole : Store
  pub naming : ℕ → ℕ
  pub count : ℕ
  pub own_is : own ≡ Running term store
  pub whole_is : c ≡ Running (plug (ctx other) (renamed naming term)) whole
  pub has_ended : Unfoldings count other Skip
  pub holds : Holds naming store rest whole

-- both sides run
pub record Two (left right c : Config) : Type 0 where
  pub first : Term
  pub second : Term
  pub first_store : Store
  pub second_store : Store
  pub rest : Store
  pub whole : Store
  pub naming : ℕ → ℕ
  pub other_naming : ℕ → ℕ
  pub left_is : left ≡ Running first first_store
  pub right_is : right ≡ Running second second_store
  pub whole_is : c ≡ Running (Par (renamed naming first) (renamed other_naming second)) whole
  pub injective : IsInjective naming
  pub other_injective : IsInjective other_naming
  pub differ : (k l : ℕ) → naming k ≢ other_naming l
  pub free : IsFreeOf naming rest
  pub other_free : IsFreeOf other_naming rest
  pub holds : Holds naming first_store (beside other_naming second_store rest) whole

-- the same, as the right side sees it
pub also_holds : (left right c : Config) (two : Two left right c)
    → Holds two.other_naming two.second_store (beside two.naming two.first_store two.rest) two.whole
also_holds left right c two =
    holds_both two.naming two.other_naming two.first_store two.second_store two.rest two.whole two.other_injective two.differ two.other_free two.holds

-- how the whole stands with its sides, by the part's phase and what lies on the joint of the result
pub data Stand (body : Term) (ph : Phase) (ask ans : Option ℕ) (left right c : Config) : Type 0 where
  rests : ph ≡ Rest → ask ≡ None → ans ≡ None → left ≡ Idle → right ≡ Idle → c ≡ Idle → Stand body ph ask ans left right c
  waits : ph ≡ Rest → ask ≡ Some 0 → ans ≡ None → left ≡ Idle → right ≡ Idle → c ≡ Running body [] → Stand body ph ask ans left right c
  both_run : ph ≡ Both → ask ≡ None → ans ≡ None → Two left right c → Stand body ph ask ans left right c
  left_alone : ph ≡ LeftOnly → ask ≡ None → ans ≡ None → right ≡ Idle → One ParLeft left c → Stand body ph ask ans left right c
  right_alone : ph ≡ RightOnly → ask ≡ None → ans ≡ None → left ≡ Idle → One ParRight right c → Stand body ph ask ans left right c
  is_done : (x : Store) → ph ≡ Rest → ask ≡ None → ans ≡ Some 0 → left ≡ Idle → right ≡ Idle → c ≡ Running Skip x → Stand body ph ask ans left right c

-- a side moves, within the whole
pub one_moves : (ctx : Term → Context) (g whole : Program) (acts : List Act) (own next c : Config) → AreAmong g.imports whole.imports → AreInner acts
    → One ctx own c
    → Moves g acts own next → (e : Config) × Moves whole acts c e × One ctx next e
one_moves ctx g whole acts own next c among inner one moves =
    let from_own = subst (λ (x : Config). Moves g acts x next) one.own_is moves in
    let (u, v, is) = inner_stays g acts one.term one.store next inner from_own in
    let to = subst (λ (x : Config). Moves g acts (Running one.term one.store) x) is from_own in
    let (y, holds, made) =
    moves_together g whole (ctx one.other ∷ []) one.naming one.rest acts one.store v one.whole one.term u among one.holds inner to in (
      Running (plug (ctx one.other) (renamed one.naming u)) y,
      subst (λ (x : Config). Moves whole acts x (Running (plug (ctx one.other) (renamed one.naming u)) y)) (sym one.whole_is) made,
      record {
        term = u;
        other = one.other;
        store = v;
        rest = one.rest;
        whole = y;
        naming = one.naming;
        count = one.count;
        own_is = is;
        whole_is = refl;
        has_ended = one.has_ended;
        holds = holds;
      },
    )

pub left_moves : (g whole : Program) (acts : List Act) (left right next c : Config) → AreAmong g.imports whole.imports → AreInner acts → Two left right c
    → Moves g acts left next → (e : Config) × Moves whole acts c e × Two next right e
left_moves g whole acts left right next c among inner two moves =
    let from_own = subst (λ (x : Config). Moves g acts x next) two.left_is moves in
    let (u, v, is) = inner_stays g acts two.first two.first_store next inner from_own in
    let to = subst (λ (x : Config). Moves g acts (Running two.first two.first_store) x) is from_own in
    let (y, holds, made) =
    moves_together g whole (ParLeft (renamed two.other_naming two.second) ∷ []) two.naming (beside two.other_naming two.second_store two.rest) acts two.first_store v
    two.whole two.first u among two.holds inner to in
    let end : Config = Running (Par (renamed two.naming u) (renamed two.other_naming two.second)) y in (
      end,
      subst (λ (x : Config). Moves whole acts x end) (sym two.whole_is) made,
      record {
        first = u;
        second = two.second;
        first_store = v;
        second_store = two.second_store;
        rest = two.rest;
        whole = y;
        naming = two.naming;
        other_naming = two.other_naming;
        left_is = is;
        right_is = two.right_is;
        whole_is = refl;
        injective = two.injective;
        other_injective = two.other_injective;
        differ = two.differ;
        free = two.free;
        other_free = two.other_free;
        holds = holds;
      },
    )

pub right_moves : (g whole : Program) (acts : List Act) (left right next c : Config) → AreAmong g.imports whole.imports → AreInner acts → Two left right c
    → Moves g acts right next → (e : Config) × Moves whole acts c e × Two left next e
right_moves g whole acts left right next c among inner two moves =
    let from_own = subst (λ (x : Config). Moves g acts x next) two.right_is moves in
    let (u, v, is) = inner_stays g acts two.second two.second_store next inner from_own in
    let to = subst (λ (x : Config). Moves g acts (Running two.second two.second_store) x) is from_own in
    let (y, holds, made) =
    moves_together g whole (ParRight (renamed two.naming two.first) ∷ []) two.other_naming (beside two.naming two.first_store two.rest) acts two.second_store v
    two.whole two.second u among (also_holds left right c two) inner to in
    let end : Config = Running (Par (renamed two.naming two.first) (renamed two.other_naming u)) y in (
      end,
      subst (λ (x : Config). Moves whole acts x end) (sym two.whole_is) made,
      record {
        first = two.first;
        second = u;
        first_store = two.first_store;
        second_store = v;
        rest = two.rest;
        whole = y;
        naming = two.naming;
        other_naming = two.other_naming;
        left_is = two.left_is;
        right_is = is;
        whole_is = refl;
        injective = two.injective;
        other_injective = two.other_injective;
        differ = two.differ;
        free = two.free;
        other_free = two.other_free;
        holds =
            holds_both two.other_naming two.naming v two.first_store two.rest y two.injective (λ k l e. two.differ l k (sym e)) two.free holds;
      },
    )

-- inner moves of a side
module _ (body : Term) (ph : Phase) (ask ans : Option ℕ) where
  pub stand_left : (g whole : Program) (acts : List Act) (left right next c : Config) → AreAmong g.imports whole.imports → AreInner acts
      → Stand body ph ask ans left right c → Moves g acts left next → (e : Config) × Moves whole acts c e × Stand body ph ask ans next right e
  stand_left g whole acts left right next c among inner (rests rest none empty left_is right_is is) moves =
      let (stays, idle_now) = idle_inner g acts next inner (subst (λ (x : Config). Moves g acts x next) left_is moves) in
      (c, no_moves whole acts c stays, rests rest none empty idle_now right_is is)
  stand_left g whole acts left right next c among inner (waits rest some empty left_is right_is is) moves =
      let (stays, idle_now) = idle_inner g acts next inner (subst (λ (x : Config). Moves g acts x next) left_is moves) in
      (c, no_moves whole acts c stays, waits rest some empty idle_now right_is is)
  stand_left g whole acts left right next c among inner (both_run phase none empty two) moves =
      let (e, made, two') = left_moves g whole acts left right next c among inner two moves in (e, made, both_run phase none empty two')
  stand_left g whole acts left right next c among inner (left_alone phase none empty right_is one) moves =
      let (e, made, one') = one_moves ParLeft g whole acts left next c among inner one moves in (e, made, left_alone phase none empty right_is one')
  stand_left g whole acts left right next c among inner (right_alone phase none empty left_is one) moves =
      let (stays, idle_now) = idle_inner g acts next inner (subst (λ (x : Config). Moves g acts x next) left_is moves) in
      (c, no_moves whole acts c stays, right_alone phase none empty idle_now one)
  stand_left g whole acts left right next c among inner (is_done x rest none some left_is right_is is) moves =
      let (stays, idle_now) = idle_inner g acts next inner (subst (λ (x : Config). Moves g acts x next) left_is moves) in
      (c, no_moves whole acts c stays, is_done x rest none some idle_now right_is is)

  pub stand_right : (g whole : Program) (acts : List Act) (left right next c : Config) → AreAmong g.imports whole.imports → AreInner acts
      → Stand body ph ask ans left right c → Moves g acts right next → (e : Config) × Moves whole acts c e × Stand body ph ask ans left next e
  stand_right g whole acts left right next c among inner (rests rest none empty left_is right_is is) moves =
      let (stays, idle_now) = idle_inner g acts next inner (subst (λ (x : Config). Moves g acts x next) right_is moves) in
      (c, no_moves whole acts c stays, rests rest none empty left_is idle_now is)
  stand_right g whole acts left right next c among inner (waits rest some empty left_is right_is is) moves =
      let (stays, idle_now) = idle_inner g acts next inner (subst (λ (x : Config). Moves g acts x next) right_is moves) in
      (c, no_moves whole acts c stays, waits rest some empty left_is idle_now is)
  stand_right g whole acts left right next c among inner (both_run phase none empty two) moves =
      let (e, made, two') = right_moves g whole acts left right next c among inner two moves in (e, made, both_run phase none empty two')
  stand_right g whole acts left right next c among inner (left_alone phase none empty right_is one) moves =
      let (stays, idle_now) = idle_inner g acts next inner (subst (λ (x : Config). Moves g acts x next) right_is moves) in
      (c, no_moves whole acts c stays, left_alone phase none empty idle_now one)
  stand_right g whole acts left right next c among inner (right_alone phase none empty left_is one) moves =
      let (e, made, one') = one_moves ParRight g whole acts right next c among inner one moves in (e, made, right_alone phase none empty left_is one')
  stand_right g whole acts left right next c among inner (is_done x rest none some left_is right_is is) moves =
      let (stays, idle_now) = idle_inner g acts next inner (subst (λ (x : Config). Moves g acts x next) right_is moves) in
      (c, no_moves whole acts c stays, is_done x rest none some left_is idle_now is)
