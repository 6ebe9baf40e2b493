-- A plan behind a Share realises what it realises without, by recursion on the type.
use Rattle.std.specs.Prelude.{◌≡◌, ℕ, suc, ◌+◌, ◌<◌, [], ◌∷◌, length}
use Rattle.std.proofs.Common.{sym, subst, arith}
use Rattle.std.proofs.lemmas.List.Elements.{All-push}
use Rattle.gos_types.specs.Types.{Type', Com, Exp, Var, Pair, Fun, IsGround}
use Rattle.gos_model.specs.Terms.{Term, App}
use Rattle.gos_plan.specs.Kinds.{Share}
use Rattle.gos_plan.specs.Plans.{Plan}
use Rattle.gos_plan.specs.TokenBits.{LiteralFits}
use Rattle.gos_plan.specs.Joining.{IsJoining}
use Rattle.gos_realises.specs.realises.Regular.{count}
use Rattle.gos_realises.specs.realises.Wirings.{applying, results_linked}
use Rattle.gos_realises.specs.realises.Realises.{Suits, Realises}
use Rattle.gos_realises.proofs.joined.WholeLemmas.{applied_is_joined}
use Rattle.gos_sharing.specs.ground_types.Joints.{BufferedGroundIsRealised}
use Rattle.gos_sharing.specs.behind.Behind.{passing, IsBehind, GroundIsBuffered}
use Rattle.gos_sharing.specs.behind.Source.{IsBefore, HasItsImports}
use Rattle.gos_sharing.proofs.behind.LyingLemmas.{lying}
use Rattle.gos_sharing.proofs.behind.PassingLemmas.{lies_behind_share}
use Rattle.gos_sharing.proofs.behind.RegularLemmas.{behind_is_regular}
use Rattle.gos_sharing.proofs.behind.SourceLemmas.{before_it, has_imports}
use Rattle.gos_sharing.specs.function_types.Split.{IsSplit}
use Rattle.gos_sharing.specs.function_types.Passing.{PassingIsRealised}
use Rattle.gos_sharing.proofs.function_types.NumberLemmas.{numbers}
use Rattle.gos_sharing.proofs.function_types.BeforeLemmas.{joined_before, joined_has}
use Rattle.gos_sharing.proofs.function_types.MeansLemmas.{results, split_is_realised}
use Rattle.gos_sharing.proofs.function_types.StandLemmas.{part_count}
use Rattle.gos_sharing.proofs.function_types.HomeLemmas.{one_longer}
use Rattle.gos_sharing.proofs.function_types.AppliedLemmas.{applied_split}

-- a plan of the type lies behind the Share
pub lies : (t : Type') (c : ℕ) (p : Plan) (m : Term) → c < 2 → Suits t p m → IsBehind (length p.parts) t c (passing t c p) p
lies t c p m two suits =
    subst (λ (s : Type'). IsBehind (length p.parts) s c (passing s c p) p) suits.outcome (lies_behind_share c p two suits.right)

pub suits_behind : (t : Type') (c : ℕ) (p : Plan) (m : Term) → c < 2 → Suits t p m → Suits t (passing t c p) m
suits_behind t c p m two suits =
    let behind = lies t c p m two suits in
    record {
      right = behind.right;
      literals = All-push LiteralFits p.parts (Share t) suits.literals tt;
      outcome = suits.outcome;
      all_ports = suits.all_ports;
      names = suits.names;
      typed = suits.typed;
      regular = behind_is_regular (length p.parts) t c (passing t c p) p behind suits.literals suits.regular;
    }

-- the application of the function behind it, where that of the function to the argument behind one realises what it should behind one
pub applied_realises : (a b : Type') (c : ℕ) (p q y x : Plan) (m n : Term) → c < 2 → Suits (Fun a b) p m → Suits a q n
    → IsJoining (applying a b p (passing a c q)) y → IsJoining (applying a b (passing (Fun a b) c p) q) x → Suits b y (App m n)
    → Realises b (passing b c y) (App m n) → Realises b x (App m n)
applied_realises a b c p q y x m n two of_p of_q of_y of_x also realised =
    split_is_realised (numbers a b c (length p.parts) (length q.parts)) (lying (length p.parts) p) x (passing b c y) p b (App m n) split before has of_p.regular realised
  where
    behind_p : IsBehind (length p.parts) (Fun a b) c (passing (Fun a b) c p) p
    behind_p = lies (Fun a b) c p m two of_p

    behind_q : IsBehind (length q.parts) a c (passing a c q) q
    behind_q = lies a c q n two of_q

    number : length y.parts ≡ suc (length p.parts + length q.parts)
    number =
        let all = part_count a b p (passing a c q) y of_y in
        let more = one_longer q.parts (Share a) in omega (arith, all, more)

    split : IsSplit (numbers a b c (length p.parts) (length q.parts)) x (passing b c y)
    split =
        applied_split a b c p q (passing (Fun a b) c p) (passing a c q) y x (passing b c y) behind_p behind_q of_y of_x
        (subst (λ (i : ℕ). IsBehind i b c (passing b c y) y) number (lies b c y (App m n) two also))

    before : IsBefore (lying (length p.parts) p) (length p.parts) (Fun a b) c x p
    before =
        joined_before (lying (length p.parts) p) (length p.parts) (Fun a b) c (passing (Fun a b) c p) p
        (before_it (length p.parts) (Fun a b) c (passing (Fun a b) c p) p behind_p) (q ∷ []) (results_linked 1 0 (count a)) 0 (count a) b (results 0 (count a)) x of_x

    has : HasItsImports (lying (length p.parts) p) x p
    has =
        joined_has (lying (length p.parts) p) (length p.parts) (Fun a b) c (passing (Fun a b) c p) p
        (before_it (length p.parts) (Fun a b) c (passing (Fun a b) c p) p behind_p) (q ∷ []) (results_linked 1 0 (count a)) 0 (count a) b (results 0 (count a)) x of_x
        (has_imports (length p.parts) (Fun a b) c (passing (Fun a b) c p) p behind_p)

module _ (ground : GroundIsBuffered) (realises : BufferedGroundIsRealised) where
  pub at_ground : (t : Type') (c : ℕ) (p : Plan) (m : Term) → c < 2 → IsGround t → Realises t p m → Realises t (passing t c p) m
  at_ground t c p m two is realised = subst (λ (r : Plan). Realises t r m) (sym (ground t c p is)) (realises t c p m two is realised)

  pub passing_is_realised : PassingIsRealised
  passing_is_realised Com c p m two flat realised = at_ground Com c p m two tt realised
  passing_is_realised (Exp w) c p m two flat realised = at_ground (Exp w) c p m two tt realised
  passing_is_realised (Var w) c p m two flat realised = at_ground (Var w) c p m two tt realised
  passing_is_realised (Pair a b) c p m two flat realised = absurd flat
  passing_is_realised (Fun a b) c p m two (flat_a, flat_b) realised =
      record {
        suits = suits_behind (Fun a b) c p m two realised.suits;
        means = λ q x n names of_q meant_q joined.
            (let behind_q = passing_is_realised a c q n two flat_a (record { suits = of_q; means = meant_q }) in
            let (y, joined_y) = applied_is_joined a b p (passing a c q) realised.suits.right behind_q.suits.right realised.suits.outcome behind_q.suits.outcome in
            let (also, meant) = realised.means (passing a c q) y n names behind_q.suits behind_q.means joined_y in
            let whole = passing_is_realised b c y (App m n) two flat_b (record { suits = also; means = meant }) in
            let done = applied_realises a b c p q y x m n two realised.suits of_q joined_y.joining joined.joining also whole in
            (done.suits, done.means));
      }
