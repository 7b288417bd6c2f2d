use Rattle.ringplan_command.proofs.tree.command.Goals as goal

pub returns : goal.returns
returns c =
    let around = c.with-line-2.ensures _ _ (c.with-line.ensures _ _ c.top.ensures c.goal.ensures) c.around.ensures in
    let shown = c.with-line-3.ensures _ _ around c.show.ensures in
    let why = c.with-line-6.ensures _ _ (c.with-line-5.ensures _ _ (c.with-line-4.ensures _ _ shown c.draw.ensures) c.check.ensures) c.why.ensures in
    let driven = c.with-line-9.ensures _ _ (c.with-line-8.ensures _ _ (c.with-line-7.ensures _ _ why c.steps.ensures) c.windows.ensures) c.drive.ensures in
    let cut = c.with-line-12.ensures _ _ (c.with-line-11.ensures _ _ (c.with-line-10.ensures _ _ driven c.job.ensures) c.replay.ensures) c.part.ensures in
    let watched = c.with-line-13.ensures _ _ cut c.watch.ensures in
    let after = c.with-line-14.ensures _ _ watched c.job-2.ensures in
    let planned = c.with-line-16.ensures _ _ (c.with-line-15.ensures _ _ after c.job-3.ensures) c.job-4.ensures in
    let migrated = c.with-line-17.ensures _ _ planned c.job-5.ensures in
    c.with.ensures _ _ (c.with-line-18.ensures _ _ migrated c.completions.ensures) c.guide.ensures
