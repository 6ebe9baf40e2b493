-- The head of a module and its declarations, as the reader passes them: what is left of them.
use Rattle.std.proofs.Common.{◌≡◌, ℕ, List, [], ◌∷◌, ◌++◌, map, Some, refl, sym, ◌∙◌, ap, arith, slice_get, append_assoc, append-nil, codes, Bor}
use Rattle.std.proofs.lemmas.Option.{same_Some}
use Rattle.gos_lex.specs.Items.{TextAt, IsJust, Passes}
use Rattle.gos_lex.specs.ItemTexts.{Passed}
use Rattle.gos_lex.proofs.PassedLemmas.{passed_item}
use Rattle.gos_verilog.specs.PortNets.{PortNet}
use Rattle.gos_verilog.specs.inner.Stages.{Rest, AreNameBytes, HaveNames, AreNamesOf, listed}
use Rattle.gos_verilog.proofs.RestLemmas.{byte_at}

pub passed_word : (old new : TextAt) (bytes : List ℕ) → new.text ≡ old.text → Passes (IsJust bytes) old.text old.at new.at → Passed old new bytes
passed_word old new bytes text passes = passed_item (IsJust bytes) old new bytes text passes.item passes

-- the values of borrowed lists, one more
abbrev pub values : List (Bor (List ℕ)) → List (List ℕ)
values = map (λ (b : Bor (List ℕ)). b.now)

pub values_snoc : (names : List (Bor (List ℕ))) (name : Bor (List ℕ)) (more : List (List ℕ)) → values (names ++ name ∷ []) ++ more ≡ values names ++ name.now ∷ more
values_snoc [] name more = refl
values_snoc (n ∷ names) name more = ap (λ rest. n.now ∷ rest) (values_snoc names name more)

-- names are read so far
abbrev pub NamesSoFar : TextAt → TextAt → List (Bor (List ℕ)) → Type 0
NamesSoFar old now names = (nets : List PortNet) (x : List ℕ) → HaveNames nets → Rest old (listed nets ++ (codes ")" ++ x))
    → (left : List PortNet) × HaveNames left × Rest now (listed left ++ (codes ")" ++ x)) × (values names ++ map (λ (n : PortNet). n.name) left ≡ map (λ (n : PortNet). n.name) nets)

-- the first name that is left, and what stands behind it
pub record NextName (now : TextAt) (names : List (Bor (List ℕ))) (nets : List PortNet) (x : List ℕ) : Type 0 where
  pub net : PortNet
  pub left : List PortNet
  pub bytes : AreNameBytes net.name
  pub rest_bytes : HaveNames left
  pub stands : Rest now (codes ", " ++ (net.name ++ (listed left ++ (codes ")" ++ x))))
  pub whole : values names ++ net.name ∷ map (λ (n : PortNet). n.name) left ≡ map (λ (n : PortNet). n.name) nets

pub next_name : (old now : TextAt) (names : List (Bor (List ℕ))) (nets : List PortNet) (x : List ℕ) → NamesSoFar old now names → slice_get now.text now.at ≡ Some 44 → HaveNames nets
    → Rest old (listed nets ++ (codes ")" ++ x)) → NextName now names nets x
next_name old now names nets x far comma have stands = by (far nets x have stands).0 (far nets x have stands).1 (far nets x have stands).2 (far nets x have stands).3
  where
    by : (left : List PortNet) → HaveNames left → Rest now (listed left ++ (codes ")" ++ x)) → values names ++ map (λ (n : PortNet). n.name) left ≡ map (λ (n : PortNet). n.name) nets
        → NextName now names nets x
    by [] all rest whole =
        let same : 41 ≡ 44 = same_Some 41 44 (sym (byte_at now.text now.at 41 x rest) ∙ comma) in
        absurd (omega (arith, same))
    by (n ∷ left) all rest whole =
        record {
          net = n;
          left = left;
          bytes = all.0;
          rest_bytes = all.1;
          stands = rest ∙ append_assoc (codes ", " ++ n.name) (listed left) (codes ")" ++ x);
          whole = whole;
        }

-- a name more is read
pub names_more : (now mid new : TextAt) (names : List (Bor (List ℕ))) (name : Bor (List ℕ)) (nets : List PortNet) (x : List ℕ) (next : NextName now names nets x)
    → name.now ≡ next.net.name → Rest new (listed next.left ++ (codes ")" ++ x))
    → (left : List PortNet) × HaveNames left × Rest new (listed left ++ (codes ")" ++ x)) × (values (names ++ name ∷ []) ++ map (λ (n : PortNet). n.name) left ≡ map (λ (n : PortNet). n.name) nets)
names_more now mid new names name nets x next is rest = (
  next.left,
  next.rest_bytes,
  rest,
  values_snoc names name (map (λ (n : PortNet). n.name) next.left)
      ∙ (ap (λ (b : List ℕ). values names ++ b ∷ map (λ (n : PortNet). n.name) next.left) is ∙ next.whole),
)

-- where no comma stands, all names are read
pub no_name_left : (old now : TextAt) (names : List (Bor (List ℕ))) (nets : List PortNet) (x : List ℕ) → NamesSoFar old now names → (slice_get now.text now.at ≡ Some 44 → ⊥) → HaveNames nets
    → Rest old (listed nets ++ (codes ")" ++ x)) → AreNamesOf nets names × Rest now (codes ")" ++ x)
no_name_left old now names nets x far comma have stands = by (far nets x have stands).0 (far nets x have stands).2 (far nets x have stands).3
  where
    by : (left : List PortNet) → Rest now (listed left ++ (codes ")" ++ x)) → values names ++ map (λ (n : PortNet). n.name) left ≡ map (λ (n : PortNet). n.name) nets
        → AreNamesOf nets names × Rest now (codes ")" ++ x)
    by [] rest whole = (sym (append-nil (values names)) ∙ whole, rest)
    by (n ∷ left) rest whole = absurd (comma (byte_at now.text now.at 44 _ rest))
