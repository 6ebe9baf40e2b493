-- The five forms are forks.
--
-- Read first: Forks. `:=` is none, since it writes its left part, whose type has two handshakes; nor is `!`.
use Rattle.std.specs.Prelude.{◌≡◌, ℕ, List, [], ◌∷◌}
use Rattle.gos_types.specs.Types.{Type', Com, Exp, IsDone}
use Rattle.gos_model.specs.Terms.{Op, result_width}
use Rattle.gos_check.specs.declared.linear.Split.{Split}
use Rattle.gos_check.specs.Nodes.{Numbered, One, Two, If, OfSeq, OfWhile, OfBin, OfNot, type_of_node}
use Rattle.gos_plan.specs.Kinds as kinds
use Rattle.gos_compile.specs.Wiring.{Types, answer_bits}
use Rattle.gos_terms.specs.run_children.Forks.{Branch, IsFork}

-- a branch with these numbers
abbrev pub branch : Numbered → List ℕ → Branch
branch m ks = record { term = m; uses = ks }

abbrev pub SequenceIsFork : Type 0
SequenceIsFork =
    (types : Types) (t : Type') (ss : List Split) (m n : Numbered) (ms ks : List ℕ)
    → IsDone t → type_of_node m ≡ Com → type_of_node n ≡ t
    → IsFork types (Two t ss OfSeq m n) ss (kinds.Seq (answer_bits t)) (branch m ms ∷ branch n ks ∷ [])

abbrev pub ChoiceIsFork : Type 0
ChoiceIsFork =
    (types : Types) (t : Type') (ss : List Split) (m n p : Numbered) (ms ks ls : List ℕ)
    → IsDone t → type_of_node m ≡ Exp 1 → type_of_node n ≡ t → type_of_node p ≡ t
    → IsFork types (If t ss m n p) ss (kinds.If (answer_bits t)) (branch m ms ∷ branch n ks ∷ branch p ls ∷ [])

abbrev pub LoopIsFork : Type 0
LoopIsFork =
    (types : Types) (ss : List Split) (m n : Numbered) (ms ks : List ℕ)
    → type_of_node m ≡ Exp 1 → type_of_node n ≡ Com
    → IsFork types (Two Com ss OfWhile m n) ss kinds.While (branch m ms ∷ branch n ks ∷ [])

abbrev pub OperatorIsFork : Type 0
OperatorIsFork =
    (types : Types) (op : Op) (w : ℕ) (ss : List Split) (m n : Numbered) (ms ks : List ℕ)
    → type_of_node m ≡ Exp w → type_of_node n ≡ Exp w
    → IsFork types (Two (Exp (result_width op w)) ss (OfBin op) m n) ss (kinds.Op op w) (branch m ms ∷ branch n ks ∷ [])

abbrev pub ComplementIsFork : Type 0
ComplementIsFork =
    (types : Types) (w : ℕ) (ss : List Split) (m : Numbered) (ms : List ℕ)
    → type_of_node m ≡ Exp w → IsFork types (One (Exp w) ss OfNot m) ss (kinds.Not w) (branch m ms ∷ [])
