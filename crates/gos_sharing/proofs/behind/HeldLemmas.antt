-- How the whole and the plan behind the Share stand to one another, along a list.
use Rattle.std.specs.Prelude.{◌≡◌, ℕ, Bool, true, false, List, ◌∷◌, ◌⊎◌, Some, slice_get, nat_eq}
use Rattle.std.proofs.Common.{refl, sym, ◌∙◌, ap, subst, arith, inl, inr}
use Rattle.std.proofs.lemmas.Option.{same_Some}
use Rattle.gos_types.specs.declared.shakes.Role.{Role}
use Rattle.gos_types.specs.declared.shakes.Role.TheVariants.{Serve}
use Rattle.gos_types.specs.Types.{Type'}
use Rattle.gos_types.specs.Events.{Direction}
use Rattle.gos_plan.specs.Kinds.{Contact, contacts_of}
use Rattle.gos_plan.specs.Firing.{Rest}
use Rattle.gos_plan.specs.Plans.{ImportEnd, ResultEnd, Plan}
use Rattle.gos_plan.specs.Tokens.{Tokens}
use Rattle.gos_plan.specs.TokenBits as bits
use Rattle.gos_plan.specs.Orderly.{Open, AllWelcome}
use Rattle.gos_plan.proofs.HeldLemmas as held
use Rattle.gos_realises.specs.realises.Regular.{Pass, pass, is_request, is_open}
use Rattle.gos_realises.proofs.realises.PassLemmas.{open_itself, open_otherwise}
use Rattle.gos_joining.proofs.renumbered.TurnLemmas.{EachKeeps}
use Rattle.gos_sharing.specs.behind.Behind.{IsBehind}
use Rattle.gos_sharing.proofs.behind.BetweenLemmas.{RoleBelow}
use Rattle.gos_sharing.proofs.behind.EndLemmas.{asker}
use Rattle.gos_sharing.proofs.behind.SeenLemmas.{seen, Opens, Untouched}
use Rattle.gos_sharing.proofs.behind.StepLemmas.{RegularFrom}
use Rattle.gos_sharing.proofs.behind.LagLemmas.{Line, lead, follow, line_below, told_end, ports_moved, same_imports}

module _ (i : ℕ) (t : Type') (c : ℕ) (r p : Plan) (is : IsBehind i t c r p) where
  abbrev pub LineAt : List Pass → List Pass → Open → Tokens → ℕ → Role → Type 0
  LineAt past own o s j role =
      Line (lead role (is_open past (ResultEnd j)) (is_open own (ResultEnd j))) (follow role (is_open past (ResultEnd j)) (is_open own (ResultEnd j)))
      (o (asker i t c j role)) (λ way. s.in_place way (asker i t c j role))

  abbrev pub Lines : List Pass → List Pass → Open → Tokens → Type 0
  Lines past own o s = (j : ℕ) (k : Contact) → slice_get (contacts_of t) j ≡ Some k → LineAt past own o s j k.role

  -- What passed outside and inside, and what is open in the whole and in the plan. The Share's branch is its caller's from the first request
  -- on, and till then nothing behind it is open.
  pub record Held (past own : List Pass) (o mine : Open) (s : Tokens) : Type 0 where
    pub going : RegularFrom p own mine (seen i t c r p is s)
    pub welcome : AllWelcome p (seen i t c r p is s)
    pub opens : Opens i t c r p is o mine
    pub fit : held.AllFit o s
    pub small : bits.AllFit r s
    pub outside : EachKeeps 0 p.imports t (is_open past)
    pub inside : EachKeeps 0 p.imports t (is_open own)
    pub imports : (n l : ℕ) → is_open own (ImportEnd n l) ≡ is_open past (ImportEnd n l)
    pub lines : Lines past own o s
    pub branch : (j : ℕ) (k : Contact) → slice_get (contacts_of t) j ≡ Some k → k.role ≡ Serve → is_open own (ResultEnd j) ≡ true → (s.state i).number ≡ c
    pub rests : (s.state i).phase ≡ Rest

  -- inside and outside
  pub held_below : (past own : List Pass) (o mine : Open) (s : Tokens) → Held past own o mine s → (j : ℕ) (k : Contact) → slice_get (contacts_of t) j ≡ Some k
      → RoleBelow k.role (is_open own (ResultEnd j)) (is_open past (ResultEnd j))
  held_below past own o mine s h j k at_j = line_below k.role (is_open past (ResultEnd j)) (is_open own (ResultEnd j)) (h.lines j k at_j).after

  moved_either : (j : ℕ) (way : Direction) (past other : List Pass) → is_request way ≡ is_open other (ResultEnd j) → (l : ℕ)
      → (is_open (pass (ResultEnd j) way ∷ past) (ResultEnd l) ≡ is_open past (ResultEnd l)) ⊎ (is_open (pass (ResultEnd j) way ∷ past) (ResultEnd l) ≡ is_open other (ResultEnd l))
  moved_either j way past other value l = by_test (told_end (ResultEnd j) (ResultEnd l))
    where
      by_test : (ResultEnd j ≡ ResultEnd l) ⊎ (ResultEnd j ≡ ResultEnd l → ⊥)
          → (is_open (pass (ResultEnd j) way ∷ past) (ResultEnd l) ≡ is_open past (ResultEnd l)) ⊎ (is_open (pass (ResultEnd j) way ∷ past) (ResultEnd l) ≡ is_open other (ResultEnd l))
      by_test (inl same) =
          inr (ap (is_open (pass (ResultEnd j) way ∷ past)) (sym same) ∙ (open_itself (ResultEnd j) way past ∙ (value ∙ ap (is_open other) same)))
      by_test (inr apart) = inl (open_otherwise (ResultEnd j) (ResultEnd l) way past apart)

  pub not_import : (j n l : ℕ) → ResultEnd j ≡ ImportEnd n l → ⊥
  not_import j n l e = cc e

  pub not_result : (n l j : ℕ) → ImportEnd n l ≡ ResultEnd j → ⊥
  not_result n l j e = cc e

  -- one handshake of the result moves to where it is on the other side
  pub inside_moves : (past own : List Pass) (o mine : Open) (s : Tokens) → Held past own o mine s → (j : ℕ) (way : Direction) → is_request way ≡ is_open past (ResultEnd j)
      → EachKeeps 0 p.imports t (is_open (pass (ResultEnd j) way ∷ own))
  inside_moves past own o mine s h j way value =
      ports_moved p.imports t (is_open own) (is_open past) (is_open (pass (ResultEnd j) way ∷ own)) h.inside h.outside (held_below past own o mine s h)
      (same_imports p.imports (is_open own) (is_open past) h.imports) (moved_either j way own past value)
      (λ n l. inr (open_otherwise (ResultEnd j) (ImportEnd n l) way own (not_import j n l)))

  pub outside_moves : (past own : List Pass) (o mine : Open) (s : Tokens) → Held past own o mine s → (j : ℕ) (way : Direction) → is_request way ≡ is_open own (ResultEnd j)
      → EachKeeps 0 p.imports t (is_open (pass (ResultEnd j) way ∷ past))
  outside_moves past own o mine s h j way value =
      ports_moved p.imports t (is_open own) (is_open past) (is_open (pass (ResultEnd j) way ∷ past)) h.inside h.outside (held_below past own o mine s h)
      (same_imports p.imports (is_open own) (is_open past) h.imports)
      (λ l. elim (moved_either j way past own value l) [
        | inl e ↦ inr e
        | inr e ↦ inl e
      ])
      (λ n l. inl (open_otherwise (ResultEnd j) (ImportEnd n l) way past (not_import j n l)))

  -- lines of the others, and of this one
  pub lines_untouched : (past own : List Pass) (o m : Open) (s w : Tokens) → Untouched i t c r p is o m s w → Lines past own o s → Lines past own m w
  lines_untouched past own o m s w same lines j k at_j =
      let old = lines j k at_j in
      record {
        opening = same.opening j k.role ∙ old.opening;
        after = old.after;
        held = λ way v lies. old.held way v (sym (same.place j k.role way) ∙ lies);
      }

  pub line_kept : (past own past_too own_too : List Pass) (o m : Open) (s w : Tokens) (j : ℕ) (role : Role)
      → is_open past_too (ResultEnd j) ≡ is_open past (ResultEnd j) → is_open own_too (ResultEnd j) ≡ is_open own (ResultEnd j)
      → m (asker i t c j role) ≡ o (asker i t c j role) → ((way : Direction) → w.in_place way (asker i t c j role) ≡ s.in_place way (asker i t c j role))
      → LineAt past own o s j role → LineAt past_too own_too m w j role
  line_kept past own past_too own_too o m s w j role passed owned opens places line =
      subst (λ (x : Bool). Line (lead role x (is_open own_too (ResultEnd j))) (follow role x (is_open own_too (ResultEnd j))) (m (asker i t c j role)) (λ way. w.in_place way (asker i t c j role))) (sym passed)
      (subst (λ (y : Bool). Line (lead role (is_open past (ResultEnd j)) y) (follow role (is_open past (ResultEnd j)) y) (m (asker i t c j role)) (λ way. w.in_place way (asker i t c j role))) (sym owned)
      (record { opening = opens ∙ line.opening; after = line.after; held = λ way v lies. line.held way v (sym (places way) ∙ lies) }))

  pub result_apart : (j l : ℕ) → (l ≡ j → ⊥) → ResultEnd j ≡ ResultEnd l → ⊥
  result_apart j l apart e = apart (cc e)

  -- Handshake j alone moved: outside, or inside.
  pub lines_moved : (past own past_too own_too : List Pass) (o m : Open) (s w : Tokens) (j : ℕ) (k : Contact) → slice_get (contacts_of t) j ≡ Some k
      → ((l : ℕ) → (l ≡ j → ⊥) → (is_open past_too (ResultEnd l) ≡ is_open past (ResultEnd l)) × (is_open own_too (ResultEnd l) ≡ is_open own (ResultEnd l)))
      → ((l : ℕ) (role : Role) → (l ≡ j → ⊥) → (m (asker i t c l role) ≡ o (asker i t c l role)) × ((way : Direction) → w.in_place way (asker i t c l role) ≡ s.in_place way (asker i t c l role)))
      → LineAt past_too own_too m w j k.role → Lines past own o s → Lines past_too own_too m w
  lines_moved past own past_too own_too o m s w j k at_j passed kept now lines l x at_l = by_test (nat_eq l j) refl
    where
      by_test : (b : Bool) → nat_eq l j ≡ b → LineAt past_too own_too m w l x.role
      by_test true test =
          let same : l ≡ j = grind (arith, test) in
          let one : k ≡ x = same_Some k x (sym at_j ∙ (ap (slice_get (contacts_of t)) (sym same) ∙ at_l)) in
          subst (λ (y : Contact). LineAt past_too own_too m w l y.role) one (subst (λ (n : ℕ). LineAt past_too own_too m w n k.role) (sym same) now)
      by_test false test =
          let apart : l ≡ j → ⊥ = (λ e. grind (arith, test, e)) in
          line_kept past own past_too own_too o m s w l x.role (passed l apart).0 (passed l apart).1 (kept l x.role apart).0 (kept l x.role apart).1 (lines l x at_l)
