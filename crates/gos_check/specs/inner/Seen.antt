-- The binders that the walk keeps, as clauses see them.
--
-- Read first: Scopes. Between the functions of this crate.
use Rattle.std.specs.Prelude.{[], ◌∷◌}
use Rattle.gos_types.specs.Types.{type_of}
use Rattle.gos_check.specs.declared.scope.Scope.{Scope}
use Rattle.gos_check.specs.declared.scope.Scope.TheVariants.{Outermost, Binder'}
use Rattle.gos_check.specs.Scopes.{Binders}

-- the binders of a scope, the innermost first
abbrev pub binders_of : Scope → Binders
binders_of Outermost = []
binders_of (Binder' name ty p outer) = record { name = name.now; ty = type_of ty.now } ∷ binders_of outer
