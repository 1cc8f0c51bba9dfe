use Rattle.m17_device_and_lane_tests.proofs.crew_tests.do_all.Goals as goal

pub returns-clause-back : goal.returns-clause-back
returns-clause-back g c = let start = c.start_all-answer in
    c.jobs_come_back_in_order.ensures c.args.jobs.now.items c.args.running.now.items start.new.jobs.items
    start.new.running.items c.join_all.new.jobs.items
    (record {
      none_before = c.requires.none;
      started_in_order = start.ensures.jobs;
      joined = c.join_all.ensures.done;
    })
