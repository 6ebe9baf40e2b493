-- Two accesses, move by move, and where they wait.
use Rattle.std.specs.Prelude.{◌≡◌, ◌^◌, ◌<◌, ℕ, zero, suc, true, false, IsTrue, [], ◌∷◌, Some}
use Rattle.std.proofs.Common.{arith, refl, sym, subst, inl, inr}
use Rattle.gos_model.specs.Terms.{Term, Skip, Lit, Import, App, Both, Deref, Wait, Put}
use Rattle.gos_types.specs.Types.{Exp, Var, Fun}
use Rattle.gos_model.specs.Accesses.{IsArrayImport}
use Rattle.gos_model.specs.Reach.{Unfolds}
use Rattle.gos_model.specs.Labels.{Taken, Label, given, taken, is_output}
use Rattle.gos_model.specs.Moves.{Act, Computing, Showing, Config, Idle, Running, Unfoldings, ActsTo}
use Rattle.gos_model.specs.ArrayPorts.{a, b, an_array, read_at, write_at, AllowedAtArray, AccessesRun, IndexWaits, ArrayAnswers}

-- an access that waits, with its index as it was written and as it is now
abbrev waiting : ℕ → Term → Term → Term
waiting s n j = App (Wait a s) (Both n j)

pub accesses_run : AccessesRun
accesses_run = (
  (
    Showing (given 0 0) ∷ Showing (taken a 2 0) ∷ Showing (taken a 1 0) ∷ Showing (taken b 0 0) ∷ Showing (taken b 1 1) ∷ Showing (taken a 0 1) ∷ Showing (taken a 1 0) ∷ Showing (taken b 0 0) ∷ Showing (taken b 1 0) ∷ Showing (taken a 0 0) ∷ Showing (taken a 3 7) ∷ Showing (given 1 7) ∷ [],
    Idle,
    (
      Running (read_at.body) [],
      (refl, refl),
      (
        Running (Deref (waiting 1 (Import b) (Import b))) [],
        (0, (read_at.body), refl, (inl (inl (inr (a, refl, (1, 8, Import b, refl, inl (refl, refl, refl, refl))))), refl)),
        (
          Running (Deref (waiting 0 (Import b) (Import b))) [],
          (0, (Deref (waiting 1 (Import b) (Import b))), refl, (inl (inr (a, refl, (1, 8, Import b, Import b, refl, refl, inl (refl, refl, refl)))), refl)),
          (
            Running (Deref (waiting 0 (Import b) (Wait b 1))) [],
            (0, (Deref (waiting 0 (Import b) (Import b))), refl, (inr (waiting 0 (Import b) (Wait b 1), refl, inl ((a, refl), Wait b 1, refl, inl (inl (inr (1, refl, refl, refl))))), refl)),
            (
              Running (Deref (waiting 0 (Import b) (Lit 1 1))) [],
              (0, (Deref (waiting 0 (Import b) (Wait b 1))), refl, (inr (waiting 0 (Import b) (Lit 1 1), refl, inl ((a, refl), Lit 1 1, refl, inl (inr (refl, refl, (omega arith, refl))))), refl)),
              (
                Running (Deref (waiting 1 (Import b) (Lit 1 1))) [],
                (0, (Deref (waiting 0 (Import b) (Lit 1 1))), refl, (inl (inl (inr (a, refl, (1, 8, Import b, refl, inr (Lit 1 1, refl, refl, refl, refl))))), refl)),
                (
                  Running (Deref (waiting 0 (Import b) (Import b))) [],
                  (0, (Deref (waiting 1 (Import b) (Lit 1 1))), refl, (inl (inr (a, refl, (1, 8, Import b, Lit 1 1, refl, refl, inl (refl, refl, refl)))), refl)),
                  (
                    Running (Deref (waiting 0 (Import b) (Wait b 1))) [],
                    (0, (Deref (waiting 0 (Import b) (Import b))), refl, (inr (waiting 0 (Import b) (Wait b 1), refl, inl ((a, refl), Wait b 1, refl, inl (inl (inr (1, refl, refl, refl))))), refl)),
                    (
                      Running (Deref (waiting 0 (Import b) (Lit 0 1))) [],
                      (0, (Deref (waiting 0 (Import b) (Wait b 1))), refl, (inr (waiting 0 (Import b) (Lit 0 1), refl, inl ((a, refl), Lit 0 1, refl, inl (inr (refl, refl, (omega arith, refl))))), refl)),
                      (
                        Running (Deref (waiting 1 (Import b) (Lit 0 1))) [],
                        (0, (Deref (waiting 0 (Import b) (Lit 0 1))), refl, (inl (inl (inr (a, refl, (1, 8, Import b, refl, inr (Lit 0 1, refl, refl, refl, refl))))), refl)),
                        (
                          Running (Lit 7 8) [],
                          (0, (Deref (waiting 1 (Import b) (Lit 0 1))), refl, (inl (inr (a, refl, (1, 8, Import b, Lit 0 1, refl, refl, inr (refl, omega arith, refl)))), refl)),
                          (Idle, (0, (Lit 7 8), refl, inr (7, 8, refl, refl)), refl),
                        ),
                      ),
                    ),
                  ),
                ),
              ),
            ),
          ),
        ),
      ),
    ),
    refl,
  ),
  (
    Showing (given 0 0) ∷ Computing ∷ Showing (taken a 4 5) ∷ Showing (taken a 1 0) ∷ Showing (taken a 0 1) ∷ Showing (taken a 5 0) ∷ Showing (given 1 0) ∷ [],
    Idle,
    (
      Running (write_at.body) [],
      (refl, refl),
      (
        Running (Put (App (Import a) (Lit 1 1)) 5) [],
        (0, (write_at.body), refl, inl (5, 8, refl, refl, refl)),
        (
          Running (Put (waiting 1 (Lit 1 1) (Lit 1 1)) 5) [],
          (0, (Put (App (Import a) (Lit 1 1)) 5), refl, (inl (inl (inr (a, refl, (1, 8, Lit 1 1, refl, inl (refl, refl, refl, refl))))), refl)),
          (
            Running (Put (waiting 0 (Lit 1 1) (Lit 1 1)) 5) [],
            (0, (Put (waiting 1 (Lit 1 1) (Lit 1 1)) 5), refl, (inl (inr (a, refl, (1, 8, Lit 1 1, Lit 1 1, refl, refl, inl (refl, refl, refl)))), refl)),
            (
              Running (Put (waiting 1 (Lit 1 1) (Lit 1 1)) 5) [],
              (0, (Put (waiting 0 (Lit 1 1) (Lit 1 1)) 5), refl, (inl (inl (inr (a, refl, (1, 8, Lit 1 1, refl, inr (Lit 1 1, refl, refl, refl, refl))))), refl)),
              (
                Running (Skip) [],
                (0, (Put (waiting 1 (Lit 1 1) (Lit 1 1)) 5), refl, (inl (inr (a, refl, (1, 8, Lit 1 1, Lit 1 1, refl, refl, inr (refl, refl, refl)))), refl)),
                (Idle, (0, (Skip), refl, inl (refl, refl)), refl),
              ),
            ),
          ),
        ),
      ),
    ),
    refl,
  ),
)

abbrev asked : Term
asked = Deref (waiting 1 (Import b) (Import b))

no_unfolding : (u : Term) → Unfolds asked u → ⊥
no_unfolding u h = grind (arith, h)

stays : (n : ℕ) (u : Term) → Unfoldings n asked u → asked ≡ u
stays zero u h = h
stays (suc n) u h = absurd (no_unfolding h.0 h.1)

computes_none : (e : Config) → ActsTo an_array Computing [] asked e → ⊥
computes_none Idle h = h
computes_none (Running m s) h = grind (arith, h)

-- a label then is the request for the index, an input
shows_none : (o : Label) (e : Config) → IsTrue (is_output o) → ActsTo an_array (Showing o) [] asked e → ⊥
shows_none o Idle out h = grind (arith, h)
shows_none o (Running m s) out h = grind (arith, h, out)

pub index_waits : IndexWaits
index_waits = (
  (
    λ e move. computes_none e (from move.0 move.1 Computing e move.2 move.3),
    λ o e out move. shows_none o e out (from move.0 move.1 (Showing o) e move.2 move.3),
  ),
  λ stalled. stalled.1 (taken b 0 0) (Running (Deref (waiting 0 (Import b) (Wait b 1))) []) refl
      (0, Deref (waiting 0 (Import b) (Import b)), refl, (inr (waiting 0 (Import b) (Wait b 1), refl, inl ((a, refl), Wait b 1, refl, inl (inl (inr (1, refl, refl, refl))))), refl)),
)
  where
    from : (n : ℕ) (u : Term) (v : Act) (e : Config) → Unfoldings n asked u → ActsTo an_array v [] u e → ActsTo an_array v [] asked e
    from n u v e us h = subst (λ t. ActsTo an_array v [] t e) (sym (stays n u us)) h

-- no event has two numbers
five_not_one : ◌≡◌ {A = ℕ} 5 1 → ⊥
five_not_one e = omega (arith, e)

five_not_three : ◌≡◌ {A = ℕ} 5 3 → ⊥
five_not_three e = omega (arith, e)

three_not_one : ◌≡◌ {A = ℕ} 3 1 → ⊥
three_not_one e = omega (arith, e)

no_true : false ≡ true → ⊥
no_true e = cc e

eight_bits : (j w : ℕ) → IsArrayImport an_array a j w → w ≡ 8
eight_bits j w array = same (sym array)
  where
    same : Some (Fun (Exp j) (Var w)) ≡ Some (Fun (Exp 1) (Var 8)) → w ≡ 8
    same e = let one : Fun (Exp j) (Var w) ≡ Fun (Exp 1) (Var 8) = cc e in let two : Var w ≡ Var 8 = cc one in cc two

-- a write that was not asked for, and a number that is too large
no_write : AllowedAtArray an_array (taken a 2 0 ∷ []) (Taken a) 5 0 → ⊥
no_write (j, w, array, free, inl (e, none, asked)) = five_not_one e
no_write (j, w, array, free, inr (inl (e, none, asked))) = five_not_three e
no_write (j, w, array, free, inr (inr (e, none, asked))) = no_true asked

too_large : AllowedAtArray an_array (taken a 2 0 ∷ []) (Taken a) 3 256 → ⊥
too_large (j, w, array, free, inl (e, none, asked)) = three_not_one e
too_large (j, w, array, free, inr (inl (e, fits, asked))) =
    let small : 256 < 2 ^ 8 = subst (λ (v : ℕ). 256 < 2 ^ v) (eight_bits j w array) fits in omega (arith, small)
too_large (j, w, array, free, inr (inr (e, none, asked))) = five_not_three (sym e)

-- the index that is waited for, and the request that is not there
still_asked : AllowedAtArray an_array (taken a 1 0 ∷ taken a 2 0 ∷ []) (Taken a) 3 255 → ⊥
still_asked (j, w, array, free, h) = no_true (sym free)

no_request : AllowedAtArray an_array [] (Taken a) 1 0 → ⊥
no_request (j, w, array, free, inl (e, none, asked)) = no_true asked
no_request (j, w, array, free, inr (inl (e, none, asked))) = three_not_one (sym e)
no_request (j, w, array, free, inr (inr (e, none, asked))) = five_not_one (sym e)

pub array_answers : ArrayAnswers
array_answers = (
  (1, 8, refl, refl, inl (refl, refl, refl)),
  (1, 8, refl, refl, inr (inl (refl, omega arith, refl))),
  no_write,
  too_large,
  still_asked,
  no_request,
)
