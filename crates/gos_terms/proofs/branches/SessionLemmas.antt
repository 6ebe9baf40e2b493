-- The sessions of each form run the branches of its fork, whatever terms these have.
use Rattle.std.specs.Prelude.{◌≡◌, ℕ, Bool, true, false, List, [], ◌∷◌, ◌++◌, Some, length, nat_eq, if◌then◌else◌}
use Rattle.std.proofs.Common.{refl, sym, ◌∙◌, ap}
use Rattle.std.proofs.lemmas.Option.{none-some, same_Some}
use Rattle.gos_types.specs.Types.{Type', Com, Exp}
use Rattle.gos_model.specs.Terms as terms
use Rattle.gos_model.specs.Terms.{Op, Term}
use Rattle.gos_check.specs.Nodes.{Numbered, type_of_node}
use Rattle.gos_plan.specs.Firing.{Phase, First, Second, Test, Branch as Branched, Body, Left, Right, Waiting}
use Rattle.gos_nodes.specs.sessions.Sessions.{Sequence, Choice, Loop, Binary, Complement, Session, session, session_of}
use Rattle.gos_terms.specs.run_children.Forks.{Branch}
use Rattle.gos_terms.specs.run_children.Forms.{branch}

module _ (the : Numbered → Term) where
  -- the session runs the branch that stands behind so many, with its term
  abbrev pub RunsOne : List Branch → Session → Type 0
  RunsOne bs s =
      (before : List Branch) × (after : List Branch) × (b : Branch) × (bs ≡ before ++ b ∷ after) × (s.asked_at ≡ length before)
      × (s.term ≡ the b.term) × (s.ty ≡ type_of_node b.term)

  runs_one : (before after : List Branch) (b : Branch) (s : Session) (t : Type') (frame : Term → Term)
      → t ≡ type_of_node b.term → session (length before) (the b.term) t frame ≡ s → RunsOne (before ++ b ∷ after) s
  runs_one before after b s t frame ty same = (
    before,
    after,
    b,
    refl,
    sym (ap (λ (x : Session). x.asked_at) same),
    sym (ap (λ (x : Session). x.term) same),
    sym (ap (λ (x : Session). x.ty) same) ∙ ty,
  )

  module _ (m n p : Numbered) (ms ks ls : List ℕ) where
    abbrev two : List Branch
    two = branch m ms ∷ branch n ks ∷ []

    abbrev three : List Branch
    three = branch m ms ∷ branch n ks ∷ branch p ls ∷ []

    pub of_sequence : (t : Type') → type_of_node m ≡ Com → type_of_node n ≡ t → (q : Phase) (k : ℕ) (s : Session)
        → session_of (Sequence t (the m) (the n)) q k ≡ Some s → RunsOne two s
    of_sequence t em en First k s h =
        let d = session 0 (the m) Com (λ x. terms.Seq x (the n)) in
        runs_one [] (branch n ks ∷ []) (branch m ms) s Com (λ x. terms.Seq x (the n)) (sym em) (same_Some d s h)
    of_sequence t em en Second k s h =
        let d = session 1 (the n) t (λ x. x) in
        runs_one (branch m ms ∷ []) [] (branch n ks) s t (λ x. x) (sym en) (same_Some d s h)
    of_sequence t em en q k s h = absurd (none-some s h)

    pub of_choice : (t : Type') → type_of_node m ≡ Exp 1 → type_of_node n ≡ t → type_of_node p ≡ t → (q : Phase) (k : ℕ) (s : Session)
        → session_of (Choice t (the m) (the n) (the p)) q k ≡ Some s → RunsOne three s
    of_choice t em en ep Test k s h =
        let d = session 0 (the m) (Exp 1) (λ x. terms.If x (the n) (the p)) in
        runs_one [] (branch n ks ∷ branch p ls ∷ []) (branch m ms) s (Exp 1) (λ x. terms.If x (the n) (the p)) (sym em) (same_Some d s h)
    of_choice t em en ep Branched k s h = by_test (nat_eq k 1) h
      where
        by_test : (b : Bool) → Some (session (if b then 1 else 2) (if b then the n else the p) t (λ x. x)) ≡ Some s → RunsOne three s
        by_test true h =
            runs_one (branch m ms ∷ []) (branch p ls ∷ []) (branch n ks) s t (λ x. x) (sym en) (same_Some (session 1 (the n) t (λ x. x)) s h)
        by_test false h =
            runs_one (branch m ms ∷ branch n ks ∷ []) [] (branch p ls) s t (λ x. x) (sym ep) (same_Some (session 2 (the p) t (λ x. x)) s h)
    of_choice t em en ep q k s h = absurd (none-some s h)

    pub of_loop : type_of_node m ≡ Exp 1 → type_of_node n ≡ Com → (q : Phase) (k : ℕ) (s : Session)
        → session_of (Loop (the m) (the n)) q k ≡ Some s → RunsOne two s
    of_loop em en Test k s h =
        let frame : Term → Term = (λ x. terms.If x (terms.Seq (the n) (terms.While (the m) (the n))) terms.Skip) in
        runs_one [] (branch n ks ∷ []) (branch m ms) s (Exp 1) frame (sym em) (same_Some (session 0 (the m) (Exp 1) frame) s h)
    of_loop em en Body k s h =
        let frame : Term → Term = (λ x. terms.Seq x (terms.While (the m) (the n))) in
        runs_one (branch m ms ∷ []) [] (branch n ks) s Com frame (sym en) (same_Some (session 1 (the n) Com frame) s h)
    of_loop em en q k s h = absurd (none-some s h)

    pub of_operator : (op : Op) (w : ℕ) → type_of_node m ≡ Exp w → type_of_node n ≡ Exp w → (q : Phase) (k : ℕ) (s : Session)
        → session_of (Binary op w (the m) (the n)) q k ≡ Some s → RunsOne two s
    of_operator op w em en Left k s h =
        let frame : Term → Term = (λ x. terms.Bin op x (the n)) in
        runs_one [] (branch n ks ∷ []) (branch m ms) s (Exp w) frame (sym em) (same_Some (session 0 (the m) (Exp w) frame) s h)
    of_operator op w em en Right k s h =
        let frame : Term → Term = (λ x. terms.Held k op x) in
        runs_one (branch m ms ∷ []) [] (branch n ks) s (Exp w) frame (sym en) (same_Some (session 1 (the n) (Exp w) frame) s h)
    of_operator op w em en q k s h = absurd (none-some s h)

  pub of_complement : (m : Numbered) (ms : List ℕ) (w : ℕ) → type_of_node m ≡ Exp w → (q : Phase) (k : ℕ) (s : Session)
      → session_of (Complement w (the m)) q k ≡ Some s → RunsOne (branch m ms ∷ []) s
  of_complement m ms w em Waiting k s h =
      let frame : Term → Term = (λ x. terms.Not x) in
      runs_one [] [] (branch m ms) s (Exp w) frame (sym em) (same_Some (session 0 (the m) (Exp w) frame) s h)
  of_complement m ms w em q k s h = absurd (none-some s h)
