-- A term of the program stands at its place.
use Rattle.std.specs.Prelude.{◌≡◌}
use Rattle.std.proofs.Common.{refl}
use Rattle.gos_lex.specs.declared.token.Span.{Span}
use Rattle.gos_syntax.specs.declared.terms.Form.{Form}
use Rattle.gos_syntax.specs.declared.terms.Form.TheVariants.{Skip as AtSkip, Lit as AtLit, Name as AtName, Fun', New', Array', App', Pair', Fst', Snd', Seq', Par', If', While', Assign', Deref', Not', Bin'}
use Rattle.gos_syntax.specs.Trees.{tree_of}
use Rattle.gos_check.specs.Judging.{place_of}

pub place_is : (form : Form) (span : Span) → place_of (tree_of form span) ≡ span
place_is AtSkip span = refl
place_is (AtLit value width) span = refl
place_is (AtName name) span = refl
place_is (Fun' name ty ty_span p s f) span = refl
place_is (New' name width width_span p s f) span = refl
place_is (Array' name length length_span width width_span p s f) span = refl
place_is (App' p s f q t g) span = refl
place_is (Pair' p s f q t g) span = refl
place_is (Fst' p s f) span = refl
place_is (Snd' p s f) span = refl
place_is (Seq' p s f q t g) span = refl
place_is (Par' p s f q t g) span = refl
place_is (If' p s f q t g r u h) span = refl
place_is (While' p s f q t g) span = refl
place_is (Assign' p s f q t g) span = refl
place_is (Deref' p s f) span = refl
place_is (Not' p s f) span = refl
place_is (Bin' op p s f q t g) span = refl
