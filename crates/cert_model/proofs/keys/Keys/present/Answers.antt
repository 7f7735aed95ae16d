use Rattle.std.proofs.Common.{option_map, ap, sym, ◌∙◌}
use Rattle.serde_json.specs.View.{view}
use Rattle.serde_json.proofs.Views.{view-lookup}
use Rattle.cert_model.proofs.keys.Keys.present.Goals as goal

pub returns-in-Some : goal.returns-in-Some
returns-in-Some c =
    rw (sym (ap (option_map view) c.in-Some.ensures.value
    ∙ view-lookup c.args.key.now c.args.self.now.object.now.entries))

pub returns-in_ok-key_path-in-None : goal.returns-in_ok-key_path-in-None
returns-in_ok-key_path-in-None c = λ _.
    rw (
      sym (ap (option_map view) c.in-None.ensures.value
          ∙ view-lookup c.args.key.now c.args.self.now.object.now.entries),
      c.in_ok-key_path-in-None.ensures,
    )
