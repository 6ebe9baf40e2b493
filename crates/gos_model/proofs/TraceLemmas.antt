-- Traces of small programs, move by move.
use Rattle.std.specs.Prelude.{◌≡◌, ℕ, zero, suc, [], ◌∷◌}
use Rattle.std.proofs.Common.{arith, refl, sym, subst, inl, inr}
use Rattle.gos_types.specs.Types.{Exp}
use Rattle.gos_model.specs.Terms.{Term, Skip, Bound, Import, Seq, Par, Wait, Lit, New, While, If, Bin, Add, Eq, Deref, Assign, Loc, Scope, Held, Put}
use Rattle.gos_model.specs.Substitution.{instantiate}
use Rattle.gos_model.specs.Reach.{Unfolds}
use Rattle.gos_model.specs.Stores.{variable_at, Store}
use Rattle.gos_model.specs.Labels.{given, taken}
use Rattle.gos_model.specs.Moves.{Computing, Showing, Idle, Running, Unfoldings, ActsTo}
use Rattle.gos_model.specs.SmallPrograms.{c, d, e, loop_once, double, ParEitherWay, LoopRuns, NewIsZero, DoubleAsksTwice}

-- the parts of the loop, with location 0 for its variable
abbrev test : Term
test = Bin Eq (Deref (Loc 0)) (Lit 0 1)

abbrev body : Term
body = Seq (Assign (Loc 0) (Lit 1 1)) (Import c)

abbrev loop : Term
loop = While test body

-- m is what is left of the body, and the loop comes after it
abbrev then_loop : Term → Term
then_loop m = Seq m loop

abbrev body_then_loop : Term
body_then_loop = then_loop body

-- m is what is left of the test
abbrev choice : Term → Term
choice m = If m body_then_loop Skip

-- the same within the block
abbrev running : Term → Term
running m = Scope 0 (then_loop m)

abbrev chosen : Term → Term
chosen m = Scope 0 (choice m)

-- the store before the assignment, and after it
abbrev first : Store
first = variable_at 0 1 0 ∷ []

abbrev again : Store
again = variable_at 0 1 1 ∷ []

pub either_way : ParEitherWay
either_way = (
  (
    Showing (given 0 0) ∷ Showing (taken c 0 0) ∷ Showing (taken d 0 0) ∷ Showing (taken d 1 0) ∷ Showing (taken c 1 0) ∷ Computing ∷ Showing (given 1 0) ∷ [],
    Idle,
    (
      Running (Par (Import c) (Import d)) [],
      (refl, refl),
      (
        Running (Par (Wait c 1) (Import d)) [],
        (0, (Par (Import c) (Import d)), refl, (inr (inl ((Wait c 1), refl, inl (inl (inl (refl, refl, refl))))), refl)),
        (
          Running (Par (Wait c 1) (Wait d 1)) [],
          (0, (Par (Wait c 1) (Import d)), refl, (inr (inr ((Wait d 1), refl, inl (inl (inl (refl, refl, refl))))), refl)),
          (
            Running (Par (Wait c 1) Skip) [],
            (0, (Par (Wait c 1) (Wait d 1)), refl, (inr (inr (Skip, refl, inl (inr (refl, refl, (refl, refl))))), refl)),
            (
              Running (Par Skip Skip) [],
              (0, (Par (Wait c 1) Skip), refl, (inr (inl (Skip, refl, inl (inr (refl, refl, (refl, refl))))), refl)),
              (
                Running Skip [],
                (0, (Par Skip Skip), refl, inl (refl, refl, refl, refl)),
                (Idle, (0, Skip, refl, inl (refl, refl)), refl),
              ),
            ),
          ),
        ),
      ),
    ),
    refl,
  ),
  (
    Showing (given 0 0) ∷ Showing (taken d 0 0) ∷ Showing (taken c 0 0) ∷ Showing (taken d 1 0) ∷ Showing (taken c 1 0) ∷ Computing ∷ Showing (given 1 0) ∷ [],
    Idle,
    (
      Running (Par (Import c) (Import d)) [],
      (refl, refl),
      (
        Running (Par (Import c) (Wait d 1)) [],
        (0, (Par (Import c) (Import d)), refl, (inr (inr ((Wait d 1), refl, inl (inl (inl (refl, refl, refl))))), refl)),
        (
          Running (Par (Wait c 1) (Wait d 1)) [],
          (0, (Par (Import c) (Wait d 1)), refl, (inr (inl ((Wait c 1), refl, inl (inl (inl (refl, refl, refl))))), refl)),
          (
            Running (Par (Wait c 1) Skip) [],
            (0, (Par (Wait c 1) (Wait d 1)), refl, (inr (inr (Skip, refl, inl (inr (refl, refl, (refl, refl))))), refl)),
            (
              Running (Par Skip Skip) [],
              (0, (Par (Wait c 1) Skip), refl, (inr (inl (Skip, refl, inl (inr (refl, refl, (refl, refl))))), refl)),
              (
                Running Skip [],
                (0, (Par Skip Skip), refl, inl (refl, refl, refl, refl)),
                (Idle, (0, Skip, refl, inl (refl, refl)), refl),
              ),
            ),
          ),
        ),
      ),
    ),
    refl,
  ),
)

pub loop_runs : LoopRuns
loop_runs = (
  Showing (given 0 0) ∷ Computing ∷ Computing ∷ Computing ∷ Computing ∷ Computing ∷ Computing ∷ Computing ∷ Computing ∷ Computing ∷ Showing (taken c 0 0) ∷ Showing (taken c 1 0) ∷ Computing ∷ Computing ∷ Computing ∷ Computing ∷ Computing ∷ Computing ∷ Computing ∷ Showing (given 1 0) ∷ [],
  Idle,
  (
    Running loop_once.body [],
    (refl, refl),
    (
      Running (Scope 0 loop) first,
      (0, loop_once.body, refl, inl (0, refl, refl, refl)),
      (
        Running (chosen test) first,
        (0, (Scope 0 loop), refl, inr ((choice test), refl, inl (refl, refl))),
        (
          Running (chosen (Bin Eq (Lit 0 1) (Lit 0 1))) first,
          (0, (chosen test), refl, inr ((choice (Bin Eq (Lit 0 1) (Lit 0 1))), refl, inr ((Bin Eq (Lit 0 1) (Lit 0 1)), refl, inr ((Lit 0 1), refl, inl (variable_at 0 1 0, 0, 0, inl (refl, refl), refl, refl, refl, refl))))),
          (
            Running (chosen (Held 0 Eq (Lit 0 1))) first,
            (0, (chosen (Bin Eq (Lit 0 1) (Lit 0 1))), refl, inr ((choice (Held 0 Eq (Lit 0 1))), refl, inr ((Held 0 Eq (Lit 0 1)), refl, inl (0, 1, refl, refl, refl)))),
            (
              Running (chosen (Lit 1 1)) first,
              (0, (chosen (Held 0 Eq (Lit 0 1))), refl, inr ((choice (Lit 1 1)), refl, inr ((Lit 1 1), refl, inl (0, 1, refl, refl, refl)))),
              (
                Running (Scope 0 body_then_loop) first,
                (0, (chosen (Lit 1 1)), refl, inr (body_then_loop, refl, inl (inl (refl, refl), refl))),
                (
                  Running (running (Seq (Put (Loc 0) 1) (Import c))) first,
                  (0, (Scope 0 body_then_loop), refl, inr ((then_loop (Seq (Put (Loc 0) 1) (Import c))), refl, inr ((Seq (Put (Loc 0) 1) (Import c)), refl, inr ((Put (Loc 0) 1), refl, inl (1, 1, refl, refl, refl))))),
                  (
                    Running (running (Seq Skip (Import c))) again,
                    (0, (running (Seq (Put (Loc 0) 1) (Import c))), refl, inr ((then_loop (Seq Skip (Import c))), refl, inr ((Seq Skip (Import c)), refl, inr (Skip, refl, inl (variable_at 0 1 0, 0, 0, inl (refl, refl), refl, refl, refl, refl))))),
                    (
                      Running (running (Import c)) again,
                      (0, (running (Seq Skip (Import c))), refl, inr ((then_loop (Import c)), refl, inr ((Import c), refl, inl (refl, refl, refl)))),
                      (
                        Running (running (Wait c 1)) again,
                        (0, (running (Import c)), refl, (inr ((then_loop (Wait c 1)), refl, inr ((Wait c 1), refl, inl (inl (inl (refl, refl, refl))))), refl)),
                        (
                          Running (running Skip) again,
                          (0, (running (Wait c 1)), refl, (inr ((then_loop Skip), refl, inr (Skip, refl, inl (inr (refl, refl, (refl, refl))))), refl)),
                          (
                            Running (Scope 0 loop) again,
                            (0, (running Skip), refl, inr (loop, refl, inl (refl, refl, refl))),
                            (
                              Running (chosen test) again,
                              (0, (Scope 0 loop), refl, inr ((choice test), refl, inl (refl, refl))),
                              (
                                Running (chosen (Bin Eq (Lit 1 1) (Lit 0 1))) again,
                                (0, (chosen test), refl, inr ((choice (Bin Eq (Lit 1 1) (Lit 0 1))), refl, inr ((Bin Eq (Lit 1 1) (Lit 0 1)), refl, inr ((Lit 1 1), refl, inl (variable_at 0 1 1, 0, 1, inl (refl, refl), refl, refl, refl, refl))))),
                                (
                                  Running (chosen (Held 1 Eq (Lit 0 1))) again,
                                  (0, (chosen (Bin Eq (Lit 1 1) (Lit 0 1))), refl, inr ((choice (Held 1 Eq (Lit 0 1))), refl, inr ((Held 1 Eq (Lit 0 1)), refl, inl (1, 1, refl, refl, refl)))),
                                  (
                                    Running (chosen (Lit 0 1)) again,
                                    (0, (chosen (Held 1 Eq (Lit 0 1))), refl, inr ((choice (Lit 0 1)), refl, inr ((Lit 0 1), refl, inl (0, 1, refl, refl, refl)))),
                                    (
                                      Running (Scope 0 Skip) again,
                                      (0, (chosen (Lit 0 1)), refl, inr (Skip, refl, inl (inr (refl, refl), refl))),
                                      (
                                        Running Skip [],
                                        (0, (Scope 0 Skip), refl, inl (inl refl, refl, refl)),
                                        (Idle, (0, Skip, refl, inl (refl, refl)), refl),
                                      ),
                                    ),
                                  ),
                                ),
                              ),
                            ),
                          ),
                        ),
                      ),
                    ),
                  ),
                ),
              ),
            ),
          ),
        ),
      ),
    ),
  ),
  refl,
)

unfolds_none : (w : ℕ) (m u : Term) → Unfolds (New w m) u → ⊥
unfolds_none w m u h = grind (arith, h)

no_unfolding : (n w : ℕ) (m u : Term) → Unfoldings n (New w m) u → New w m ≡ u
no_unfolding zero w m u h = h
no_unfolding (suc n) w m u h = absurd (unfolds_none w m h.0 h.1)

starts : (w : ℕ) (m t : Term) (s : Store) → ActsTo [] Computing [] (New w m) (Running t s) → (l : ℕ) × (t ≡ Scope l (instantiate m (Loc l))) × (s ≡ variable_at l w 0 ∷ [])
starts w m t s (inl (l, _, e, f)) = (l, e, f)
starts w m t s (inr h) = absurd h

pub new_is_zero : NewIsZero
new_is_zero w m t s (n, u, us, h) = starts w m t s (subst (λ v. ActsTo [] Computing [] v (Running t s)) (sym (no_unfolding n w m u us)) h)

-- the argument put in
abbrev sum : Term
sum = Bin Add (Import e) (Import e)

pub asks_twice : DoubleAsksTwice
asks_twice = (
  Showing (given 0 0) ∷ Showing (taken e 0 0) ∷ Showing (taken e 1 3) ∷ Computing ∷ Showing (taken e 0 0) ∷ Showing (taken e 1 4) ∷ Computing ∷ Showing (given 1 7) ∷ [],
  Idle,
  (
    Running double.body [],
    (refl, refl),
    (
      Running (Bin Add (Wait e 1) (Import e)) [],
      (1, sum, (sum, inl (inl (inl (Exp 8, Bin Add (Bound 0) (Bound 0), refl, refl))), refl), (inr (Wait e 1, refl, inl (inl (inr (8, refl, refl, refl)))), refl)),
      (
        Running (Bin Add (Lit 3 8) (Import e)) [],
        (0, Bin Add (Wait e 1) (Import e), refl, (inr (Lit 3 8, refl, inl (inr (refl, refl, (omega arith, refl)))), refl)),
        (
          Running (Held 3 Add (Import e)) [],
          (0, Bin Add (Lit 3 8) (Import e), refl, inl (3, 8, refl, refl, refl)),
          (
            Running (Held 3 Add (Wait e 1)) [],
            (0, Held 3 Add (Import e), refl, (inr (Wait e 1, refl, inl (inl (inr (8, refl, refl, refl)))), refl)),
            (
              Running (Held 3 Add (Lit 4 8)) [],
              (0, Held 3 Add (Wait e 1), refl, (inr (Lit 4 8, refl, inl (inr (refl, refl, (omega arith, refl)))), refl)),
              (
                Running (Lit 7 8) [],
                (0, Held 3 Add (Lit 4 8), refl, inl (4, 8, refl, refl, refl)),
                (Idle, (0, Lit 7 8, refl, inr (7, 8, refl, refl)), refl),
              ),
            ),
          ),
        ),
      ),
    ),
  ),
  refl,
)
