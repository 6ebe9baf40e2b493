-- What a program does by itself is done by a program that has it as a part.
use Rattle.std.specs.Prelude.{◌≡◌, ◌≢◌, ◌⊎◌, ℕ, ◌+◌, List, [], ◌∷◌, ◌++◌, Option, Some, None}
use Rattle.std.proofs.Common.{arith, refl, sym, ap, subst, inl, inr, ◌∙◌}
use Rattle.gos_model.specs.Terms.{Term}
use Rattle.gos_model.specs.Stores.{Entry, Store, entry_at}
use Rattle.gos_model.specs.Labels.{given}
use Rattle.gos_model.specs.Moves.{Program, Config, Running, Act, Showing, Move, Moves, Stalled}
use Rattle.gos_model.proofs.NumberLemmas.{number_cases}
use Rattle.gos_programs.specs.contexts.Contexts.{Context, plug_all, AllAlone}
use Rattle.gos_programs.specs.contexts.Plugged.{AreInner}
use Rattle.gos_programs.specs.contexts.Renaming.{renamed, renamed_store, IsFreeOf, beside}
use Rattle.gos_programs.specs.contexts.SameStores.{SameEntries, AreApart}
use Rattle.gos_programs.specs.contexts.Widening.{AreAmong, Knows}
use Rattle.gos_programs.specs.contexts.Together.{Holds, HoldsBoth, TwoRenamings, MoveTogether, MovesTogether, RunTogether, WaitsTogether, BothWaitTogether, RightWaitsTogether, LeftWaitsTogether}
use Rattle.gos_programs.proofs.contexts.StoreLemmas.{later_at}
use Rattle.gos_programs.proofs.contexts.PluggedLemmas.{move_plugged, moves_plugged}
use Rattle.gos_programs.proofs.contexts.BackwardLemmas.{waits_within, both_wait, right_waits, left_waits}
use Rattle.gos_programs.proofs.contexts.ShutLemmas.{sources_are_shut}
use Rattle.gos_programs.proofs.contexts.ScopeLemmas.{ends_empty}
use Rattle.gos_programs.proofs.contexts.RenamedStoreLemmas.{above, above_absent}
use Rattle.gos_programs.proofs.contexts.RenamedLemmas.{value_renamed, sources_renamed}
use Rattle.gos_programs.proofs.contexts.BesideLemmas.{move_beside, moves_beside, waits_beside}
use Rattle.gos_programs.proofs.contexts.WideningLemmas.{move_widens, moves_widen, waits_widely}
use Rattle.gos_programs.proofs.contexts.SameLemmas.{same_back, or_else, entry_append, move_same, moves_same, waits_same}

-- a renamed store has nothing at a location that its renaming never gives
nothing_given : (q : ℕ → ℕ) (t : Store) (l : ℕ) → ((k : ℕ) → l ≢ q k) → entry_at (renamed_store q t) l ≡ None
nothing_given q [] l never = refl
nothing_given q (e ∷ t) l never =
    later_at (record e { place = q e.place }) (renamed_store q t) l (λ h. never e.place (sym h)) ∙ nothing_given q t l never

-- where it has something, another that is free of it has nothing
apart_of : (r : ℕ → ℕ) (s f : Store) → IsFreeOf r f → AreApart (renamed_store r s) f
apart_of r [] f free l = inl refl
apart_of r (e ∷ s) f free l =
    elim (apart_of r s f free l) [
      | inl h ↦ number_cases (r e.place) l (λ same y. inr (subst (λ (x : ℕ). entry_at f x ≡ None) same (free e.place)))
          (λ other n. inl (later_at (record e { place = r e.place }) (renamed_store r s) l other ∙ h))
      | inr h ↦ inr h
    ]

-- a store is free of a renaming where each part of it is
free_append : (r : ℕ → ℕ) (s f : Store) (l : ℕ) → entry_at s (r l) ≡ None → entry_at f (r l) ≡ None → entry_at (s ++ f) (r l) ≡ None
free_append r s f l h g = entry_append s f (r l) ∙ (ap (λ (o : Option Entry). or_else o (entry_at f (r l))) h ∙ g)

-- what is in front of two changes places with what stands in the middle
middle_same : (s t f : Store) → AreApart s t → SameEntries (s ++ (t ++ f)) (t ++ (s ++ f))
middle_same s t f apart l =
    entry_append s (t ++ f) l
    ∙ (ap (or_else (entry_at s l)) (entry_append t f l)
    ∙ (either (entry_at s l) (entry_at t l) (entry_at f l) (apart l)
    ∙ (sym (ap (or_else (entry_at t l)) (entry_append s f l)) ∙ sym (entry_append t (s ++ f) l))))
  where
    either : (o q c : Option Entry) → (o ≡ None) ⊎ (q ≡ None) → or_else o (or_else q c) ≡ or_else q (or_else o c)
    either None None c h = refl
    either None (Some e) c h = refl
    either (Some d) None c h = refl
    either (Some d) (Some e) c (inl h) = absurd cc
    either (Some d) (Some e) c (inr h) = absurd cc

pub holds_both : HoldsBoth
holds_both r q s t f x inj differ free (injr, freer, same) = (
  inj,
  (λ l. free_append q (renamed_store r s) f l (nothing_given r s (q l) (λ k h. differ k l (sym h))) (free l)),
  (λ l. same l ∙ middle_same (renamed_store r s) (renamed_store q t) f apart l),
)
  where
    apart : AreApart (renamed_store r s) (renamed_store q t)
    apart = apart_of r s (renamed_store q t) (λ l. nothing_given q t (r l) (λ k. differ l k))

pub two_renamings : TwoRenamings
two_renamings f = (
  (λ l. above f + (l + l)),
  (λ l. above f + (l + l + 1)),
  (λ k l h. omega (arith, h)),
  (λ k l h. omega (arith, h)),
  (λ k l h. omega (arith, h)),
  (λ l. above_absent f (above f + (l + l)) (omega arith)),
  (λ l. above_absent f (above f + (l + l + 1)) (omega arith)),
)

-- through all contexts
move_plugged_all : (q : Program) (a : Act) (cs : List Context) (s u : Store) (m t : Term)
    → Move q a (Running m s) (Running t u) → Move q a (Running (plug_all cs m) s) (Running (plug_all cs t) u)
move_plugged_all q a [] s u m t h = h
move_plugged_all q a (c ∷ cs) s u m t h = move_plugged q q a c s u (plug_all cs m) (plug_all cs t) refl (move_plugged_all q a cs s u m t h)

moves_plugged_all : (q : Program) (acts : List Act) (cs : List Context) (s u : Store) (m t : Term) → AreInner acts
    → Moves q acts (Running m s) (Running t u) → Moves q acts (Running (plug_all cs m) s) (Running (plug_all cs t) u)
moves_plugged_all q acts [] s u m t inner h = h
moves_plugged_all q acts (c ∷ cs) s u m t inner h =
    moves_plugged q q acts c s u (plug_all cs m) (plug_all cs t) refl inner (moves_plugged_all q acts cs s u m t inner h)

waits_within_all : (q : Program) (cs : List Context) (s : Store) (m : Term) → AllAlone cs → Stalled q (Running m s) → Stalled q (Running (plug_all cs m) s)
waits_within_all q [] s m alone h = h
waits_within_all q (c ∷ cs) s m alone h = waits_within q q c s (plug_all cs m) refl alone.0 (waits_within_all q cs s m alone.1 h)

pub move_together : MoveTogether
move_together p q cs r f a s u x m t among (inj, free, same) h =
    let wide = move_widens p q a m s (Running t u) among h in
    let alone = move_beside q q r f a s u m t refl inj free wide in
    let k = move_same q a (renamed r m) (renamed r t) (beside r s f) (beside r u f) x (same_back x (beside r s f) same) alone in
    (k.0, (inj, free, same_back (beside r u f) k.0 k.1), move_plugged_all q a cs x k.0 (renamed r m) (renamed r t) k.2)

pub moves_together : MovesTogether
moves_together p q cs r f acts s u x m t among (inj, free, same) inner h =
    let wide = moves_widen p q acts m t s u among inner h in
    let alone = moves_beside q q r f acts s u m t refl inj free inner wide in
    let k = moves_same q acts (renamed r m) (renamed r t) (beside r s f) (beside r u f) x (same_back x (beside r s f) same) inner alone in
    (k.0, (inj, free, same_back (beside r u f) k.0 k.1), moves_plugged_all q acts cs x k.0 (renamed r m) (renamed r t) inner k.2)

same_part : (r : ℕ → ℕ) (s f x : Store) → Holds r s f x → SameEntries x (beside r s f)
same_part r s f x (inj, free, same) = same

pub run_together : RunTogether
run_together p q cs acts u x v ty among typed inner is (b, (e, at_body), hs) =
    let rs = two_renamings x in
    let r = rs.0 in
    let inside : Moves p acts (Running p.body []) (Running v u) = subst (λ (y : Config). Moves p acts y (Running v u)) at_body hs in
    let empty : u ≡ [] = ends_empty p (Showing (given 0 0) ∷ acts) v u (sources_are_shut p.imports [] p.body ty typed) (b, (e, at_body), hs) is in
    let k = moves_together p q cs r x acts [] u x p.body v among (rs.2, rs.5, λ l. refl) inner inside in (
      k.0,
      subst (λ (y : Store). SameEntries k.0 (beside r y x)) empty (same_part r u x k.0 k.1),
      subst (λ (y : Term). Moves q acts (Running (plug_all cs p.body) x) (Running (plug_all cs y) k.0)) (value_renamed r v is)
          (subst (λ (y : Term). Moves q acts (Running (plug_all cs y) x) (Running (plug_all cs (renamed r v)) k.0))
          (sources_renamed r p.imports [] p.body ty typed) k.2),
    )

-- a part that waits by itself waits with this store
waits_here : (p q : Program) (r : ℕ → ℕ) (f s x : Store) (m : Term)
    → AreAmong p.imports q.imports → Knows p.imports m → Holds r s f x → Stalled p (Running m s) → Stalled q (Running (renamed r m) x)
waits_here p q r f s x m among known (inj, free, same) stalled =
    waits_same q (renamed r m) (beside r s f) x (same_back x (beside r s f) same)
    (waits_beside q q r f s m refl inj free (waits_widely p q m s among known stalled))

pub waits_together : WaitsTogether
waits_together p q cs r f s x m among known alone holds stalled =
    waits_within_all q cs x (renamed r m) alone (waits_here p q r f s x m among known holds stalled)

pub both_wait_together : BothWaitTogether
both_wait_together p1 p2 q r1 r2 f1 f2 s1 s2 x m1 m2 among1 known1 holds1 stalled1 among2 known2 holds2 stalled2 =
    both_wait q q x (renamed r1 m1) (renamed r2 m2) refl
    (waits_here p1 q r1 f1 s1 x m1 among1 known1 holds1 stalled1)
    (waits_here p2 q r2 f2 s2 x m2 among2 known2 holds2 stalled2)

pub right_waits_together : RightWaitsTogether
right_waits_together p q r f s x v m among known holds stalled is =
    right_waits q q x v (renamed r m) refl is (waits_here p q r f s x m among known holds stalled)

pub left_waits_together : LeftWaitsTogether
left_waits_together p q r f s x v m among known holds stalled is =
    left_waits q q x (renamed r m) v refl (waits_here p q r f s x m among known holds stalled) is
