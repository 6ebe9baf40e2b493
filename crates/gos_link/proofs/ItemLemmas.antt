-- How the statements of a build file read on, line by line.
use Rattle.std.proofs.Common.{◌≡◌, ℕ, List, [], ◌∷◌, ◌++◌, ◌-◌, ◌∙◌, suc, length, arith, ap, refl, sym, subst, Option, Some, None, append-nil, append_assoc}
use Rattle.std.specs.Prelude.{slice_get}
use Rattle.gos_lex.specs.Lines.{Word, Statement}
use Rattle.gos_link.specs.BuildFile.{IsRightAfter, IsWrongAt, ReadsOn, last_sort, sort_of}
use Rattle.gos_link.specs.declared.said.Said.{Said}
use Rattle.gos_link.specs.declared.said.Item.{Item}

-- whatever the rest reads as, all the statements read as the lines so far and then that
abbrev pub ReadSoFar : Word → List Statement → List Item → List Statement → Type 0
ReadSoFar own all items rest =
    (more : List Item) (ending : Option ℕ) → ReadsOn own items rest more ending → ReadsOn own [] all (items ++ more) ending

module _ (own : Word) (all : List Statement) (items : List Item) (rest : List Statement) where
  -- the statements end
  pub all_read : ReadSoFar own all items rest → rest ≡ [] → ReadsOn own [] all items None
  all_read so_far ends =
      let last = so_far [] None (subst (λ (ss : List Statement). ReadsOn own items ss [] None) (sym ends) refl) in
      subst (λ (is : List Item). ReadsOn own [] all is None) (append-nil items) last

  -- the next statement is right
  pub one_more : (s : Statement) (others : List Statement) (said : Said) → ReadSoFar own all items rest → rest ≡ s ∷ others → IsRightAfter own items s.words said
      → ReadSoFar own all (items ++ record { line = s.line; said = said } ∷ []) others
  one_more s others said so_far is right = λ more ending reads.
      let item : Item = record { line = s.line; said = said } in
      let whole = so_far (item ∷ more) ending (subst (λ (ss : List Statement). ReadsOn own items ss (item ∷ more) ending) (sym is) (refl, right, reads)) in
      subst (λ (is : List Item). ReadsOn own [] all is ending) (sym (append_assoc items (item ∷ []) more)) whole

  -- the next statement is wrong
  pub first_wrong : (s : Statement) (others : List Statement) → ReadSoFar own all items rest → rest ≡ s ∷ others → ((said : Said) → IsRightAfter own items s.words said → ⊥)
      → IsWrongAt own all s.line
  first_wrong s others so_far is wrong =
      (items ++ [], so_far [] (Some s.line) (subst (λ (ss : List Statement). ReadsOn own items ss [] (Some s.line)) (sym is) (refl, wrong)))

-- the last line decides
pub sort_of_last : (n : ℕ) (items : List Item) (item : Item) → Some item ≡ slice_get items (length items - 1) → sort_of item.said ≡ last_sort n items
sort_of_last n [] item h = absurd (cc h)
sort_of_last n (a ∷ []) item h = let same : item ≡ a = cc h in ap (λ (i : Item). sort_of i.said) same
sort_of_last n (a ∷ b ∷ items) item h =
    let before : length (a ∷ b ∷ items) - 1 ≡ suc (length (b ∷ items) - 1) = omega arith in
    sort_of_last (sort_of a.said) (b ∷ items) item (h ∙ ap (slice_get (a ∷ b ∷ items)) before)
