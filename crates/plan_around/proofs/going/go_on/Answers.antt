use Rattle.std.proofs.Common.{◌++◌, List, ap, refl, subst, sym, ◌∙◌}
use Rattle.std.proofs.lemmas.Result.{IfOk-weaker}
use Rattle.ring_table.specs.Value.{RingValue}
use Rattle.ring_table.specs.Spelling.{ring_text}
use Rattle.plan_text.specs.Spelling.{plan_text}
use Rattle.plan_text.specs.declared.step.Planned.{Planned}
use Rattle.plan_cert.specs.Spelling.{cert_text}
use Rattle.plan_check.specs.Certified.{IsCertified}
use Rattle.plan_check.specs.Headline.{KeepsPromises}
use Rattle.history_laws.specs.Past.{IsSamePast}
use Rattle.history_text.specs.Spelling.{history_text}
use Rattle.ring_core.specs.Replays.{Replays}
use Rattle.plan_around.specs.Alike.{LeadAlike}
use Rattle.plan_runs.specs.World.{World as TheWorld}
use Rattle.ring_core.specs.World.{Meets}
use Rattle.plan_around.specs.Around.{back_with, LeadsOn, RunsApart}
use Rattle.plan_around.specs.Ends.{EndsWell}
use Rattle.plan_around.proofs.Comparing.{led_well}
use Rattle.plan_around.proofs.Again.{four}
use Rattle.plan_around.proofs.going.go_on.Goals as goal

pub ask_ends-requires-clause-same : goal.ask_ends-requires-clause-same
ask_ends-requires-clause-same c = c.in_ok-approved.ensures.same.0 ∙ (c.in_ok-ring.ensures.ok ∙ c.ring.ensures.value)

pub history_on-requires-clause-ring : goal.history_on-requires-clause-ring
history_on-requires-clause-ring c = c.requires.ring ∙ sym (c.in_ok-approved.ensures.same.0 ∙ (c.in_ok-ring.ensures.ok ∙ c.ring.ensures.value))

pub returns-clause-by : goal.returns-clause-by
returns-clause-by c =
    let plan = c.args.plan in
    let it = c.args.it.now in
    let ring = it.old.now.ring in
    let more = c.as_slice.result.now in
    let front = c.in_ok-text.ensures.text ∙ ap (λ (r : RingValue). ring_text r ++ (plan_text r plan ++ cert_text r it.cert.now)) (c.in_ok-ring.ensures.ok ∙ c.ring.ensures.value) in
    IfOk-weaker c.followed.result _ _
    (λ v is. (more, four (ring_text ring) (plan_text ring plan) (cert_text ring it.cert.now) more v.items c.in_ok-text.text.items more front refl is))
    c.followed.ensures

pub returns-clause-around : goal.returns-clause-around
returns-clause-around c =
    let plan = c.args.plan in
    let it = c.args.it.now in
    let ring = it.old.now.ring in
    let before = c.args.before.now in
    let approved = c.in_ok-approved.approved in
    let of-ring = c.in_ok-approved.ensures.same.0 ∙ (c.in_ok-ring.ensures.ok ∙ c.ring.ensures.value) in
    let of-plan = c.in_ok-approved.ensures.same.1 in
    let entries = c.in_ok-told.told.led.entries.items in
    let past = subst (λ (p : List Planned). IsSamePast (back_with it.left.now it.back) it.old.now.plan p it.history.now entries) of-plan c.in_ok-told.ensures.past in
    let run = subst (λ (r : RingValue). RunsApart r plan it.dead.now entries) of-ring (subst (λ (p : List Planned). RunsApart approved.ring p it.dead.now entries) of-plan c.in_ok-history.ensures.run) in
    let first = subst (λ (p : List Planned). Replays ring p before it.history.now) (sym c.requires.plan) c.requires.replays in
    let on = subst (λ (r : RingValue). LeadsOn it.back it.left.now r before plan entries) of-ring (subst (λ (p : List Planned). LeadsOn it.back it.left.now approved.ring before p entries) of-plan c.in_ok-history.ensures.alike) in
    let well = subst (λ (p : List Planned). (w : TheWorld) → Meets before w → EndsWell it.extent it.back ring it.old.now.plan w p it.dead.now it.left.now) of-plan c.in_ok-ask_ends.ensures in
    let more = c.as_slice.ensures.value ∙ c.in_ok-history.ensures.text ∙ ap (λ (r : RingValue). history_text r it.writers.now entries) of-ring in
    let certified = subst (λ (r : RingValue). IsCertified r plan it.cert.now) (c.in_ok-ring.ensures.ok ∙ c.ring.ensures.value) c.in_ok-approved.ensures.certified in
    let keeps = subst (λ (r : RingValue). KeepsPromises r plan) (c.in_ok-ring.ensures.ok ∙ c.ring.ensures.value) c.in_ok-approved.ensures.keeps in
    let front = c.in_ok-text.ensures.text ∙ ap (λ (r : RingValue). ring_text r ++ (plan_text r plan ++ cert_text r it.cert.now)) (c.in_ok-ring.ensures.ok ∙ c.ring.ensures.value) in
    IfOk-weaker c.followed.result _ _
    (λ v is. record {
      plan = plan;
      cert = it.cert.now;
      history = entries;
      past = past;
      stores = subst (λ (p : List Planned). LeadAlike it.back it.left.now ring p plan it.history.now entries) c.requires.plan (on it.history.now first);
      ends = led_well it.extent it.back ring it.old.now.plan plan before it.dead.now it.left.now it.history.now c.requires.replays well;
      goes_on = record {
        certified = certified;
        keeps = keeps;
        run = run;
        text = four (ring_text ring) (plan_text ring plan) (cert_text ring it.cert.now) (history_text ring it.writers.now entries) v.items c.in_ok-text.text.items c.as_slice.result.now front more is;
      };
    })
    c.followed.ensures
