use Rattle.plan_check.proofs.checker.check.Goals as goal

pub new-requires : goal.new-requires
new-requires c =
    let sound = c.certified_is_sound.ensures c.args.ring c.args.plan c.args.cert.now (c.first_is_none_where_certified.ensures.0 c.in-Ok.ensures.first) in
    record { sound = sound; keeps = c.sound_plans_keep_promises.ensures sound }
