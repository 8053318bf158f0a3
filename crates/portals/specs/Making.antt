-- Making a target from its settings.
use Rattle.std.specs.Prelude.{[], ◌∷◌, leb, Result}
use Rattle.matching.specs.Refusals.{first_bad}
use Rattle.matching.specs.declared.refusals.Refusal.{Refusal}
use Rattle.matching.specs.declared.refusals.BadArgument.{BadArgument}
use Rattle.state.specs.Sizes.{MEMORY}
use Rattle.state.specs.View.{View, empty_view}
use Rattle.state.specs.declared.layout.Settings.{Settings}
use Rattle.portals.specs.Refusals.{good_arguments, unless_refused}
use Rattle.portals.specs.Answers.{MADE, refused}
use Rattle.portals.specs.Outcome.{Outcome}

-- "size above 65,536"
abbrev pub bad_setting : Settings → Result Unit BadArgument
bad_setting s = first_bad (record { passed = leb s.size MEMORY; argument = BadArgument.Size } ∷ [])

-- "a new target of size 0 then comes back"
abbrev pub not_made : Refusal → Outcome View Unit
not_made r = record { answer = refused r; state = empty_view 0; buffer = tt }

unfoldable pub new : Settings → Outcome View Unit
new s =
    unless_refused not_made
    (good_arguments (bad_setting s) ∷ [])
    (record { answer = MADE; state = empty_view s.size; buffer = tt })
