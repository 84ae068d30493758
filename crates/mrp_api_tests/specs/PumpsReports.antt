-- Tests of the library: the other reports of the pumps, worked by hand.
use Rattle.std.specs.Prelude.{◌≡◌, ◌++◌, None, codes}
use Rattle.mrp_commands.specs.declared.choice.Heading.TheVariants.{Names}
use Rattle.mrp_net.specs.Plan.{plan_of}
use Rattle.mrp_report.specs.Lanes.{lane_text}
use Rattle.mrp_report.specs.Orders.{order_text}
use Rattle.mrp_schedules.specs.ScheduleRows.{schedule_text}
use Rattle.mrp_advice.specs.AdviceRows.{advice_text}
use Rattle.mrp_world.specs.Figures.{last_figures}
use Rattle.mrp_api_tests.specs.Pumps.{pumps}

-- the planned orders, and which of them are late
abbrev pub PumpsAreOrdered : Type 0
PumpsAreOrdered =
    order_text Names None pumps (plan_of pumps)
    ≡ codes "row,plant,item,supply,quantity,release,release_date,due,due_date,late\n"
    ++ codes "order,WORKS,PUMP,make,2,0,2026-11-30,1,2026-12-07,0\n"
    ++ codes "order,WORKS,PUMP,make,27,2,2026-12-14,3,2026-12-21,0\n"
    ++ codes "order,WORKS,PUMP,make,10,3,2026-12-21,4,2026-12-28,0\n"
    ++ codes "order,WORKS,PUMP,make,28,4,2026-12-28,5,2027-01-04,0\n"
    ++ codes "order,WORKS,PUMP,make,16,5,2027-01-04,6,2027-01-11,0\n"
    ++ codes "order,WORKS,PUMP,make,14,6,2027-01-11,7,2027-01-18,0\n"
    ++ codes "order,WORKS,HOUSING,from:FOUNDRY,25,1,2026-12-07,2,2026-12-14,0\n"
    ++ codes "order,WORKS,HOUSING,from:FOUNDRY,44,3,2026-12-21,4,2026-12-28,0\n"
    ++ codes "order,WORKS,HOUSING,from:FOUNDRY,14,5,2027-01-04,6,2027-01-11,0\n"
    ++ codes "order,WORKS,IMPELLER,from:FOUNDRY,30,1,2026-12-07,2,2026-12-14,0\n"
    ++ codes "order,WORKS,IMPELLER,from:FOUNDRY,30,2,2026-12-14,3,2026-12-21,0\n"
    ++ codes "order,WORKS,IMPELLER,from:FOUNDRY,40,3,2026-12-21,4,2026-12-28,0\n"
    ++ codes "order,WORKS,IMPELLER,from:FOUNDRY,30,4,2026-12-28,5,2027-01-04,0\n"
    ++ codes "order,WORKS,IMPELLER,from:FOUNDRY,30,5,2027-01-04,6,2027-01-11,0\n"
    ++ codes "order,WORKS,MOTOR,buy,50,2,2026-12-14,5,2027-01-04,0\n"
    ++ codes "order,FOUNDRY,HOUSING,make,40,0,2026-11-30,1,2026-12-07,1\n"
    ++ codes "order,FOUNDRY,HOUSING,make,40,1,2026-12-07,3,2026-12-21,0\n"
    ++ codes "order,FOUNDRY,IMPELLER,make,14,0,2026-11-30,1,2026-12-07,0\n"
    ++ codes "order,FOUNDRY,IMPELLER,make,30,1,2026-12-07,2,2026-12-14,0\n"
    ++ codes "order,FOUNDRY,IMPELLER,make,43,2,2026-12-14,3,2026-12-21,0\n"
    ++ codes "order,FOUNDRY,IMPELLER,make,38,3,2026-12-21,4,2026-12-28,0\n"
    ++ codes "order,FOUNDRY,IMPELLER,make,31,4,2026-12-28,5,2027-01-04,0\n"
    ++ codes "order,FOUNDRY,CASTING,buy,50,0,2026-11-30,0,2026-11-30,5\n"
    ++ codes "order,FOUNDRY,CASTING,buy,50,0,2026-11-30,1,2026-12-07,4\n"
    ++ codes "order,FOUNDRY,BRASS,buy,245,0,2026-11-30,1,2026-12-07,0\n"
    ++ codes "order,FOUNDRY,BRASS,buy,93,3,2026-12-21,4,2026-12-28,0\n"
    ++ codes "order,DEPOT,PUMP,from:WORKS,5,1,2026-12-07,2,2026-12-14,0\n"
    ++ codes "order,DEPOT,PUMP,from:WORKS,7,3,2026-12-21,4,2026-12-28,0\n"
    ++ codes "order,DEPOT,PUMP,from:WORKS,10,5,2027-01-04,6,2027-01-11,0\n"
    ++ codes "order,DEPOT,IMPELLER,from:WORKS:700:FOUNDRY:300,1,0,2026-11-30,1,2026-12-07,1\n"
    ++ codes "order,DEPOT,IMPELLER,from:WORKS:700:FOUNDRY:300,4,0,2026-11-30,2,2026-12-14,0\n"
    ++ codes "order,DEPOT,IMPELLER,from:WORKS:700:FOUNDRY:300,5,1,2026-12-07,3,2026-12-21,0\n"
    ++ codes "order,DEPOT,IMPELLER,from:WORKS:700:FOUNDRY:300,10,3,2026-12-21,5,2027-01-04,0\n"
    ++ codes "order,DEPOT,IMPELLER,from:WORKS:700:FOUNDRY:300,4,4,2026-12-28,6,2027-01-11,0\n"
    ++ codes "order,DEPOT,IMPELLER,from:WORKS:700:FOUNDRY:300,3,5,2027-01-04,7,2027-01-18,0\n"

-- the delivery schedules, with what is in transit and where figures start anew
abbrev pub PumpsAreScheduled : Type 0
PumpsAreScheduled =
    schedule_text Names None None pumps
    ≡ codes "row,kind,supplier,customer,item,period,date,quantity,cumulative\n"
    ++ codes "schedule,opening,FOUNDRY,WORKS,HOUSING,,,15,975\n"
    ++ codes "schedule,call,FOUNDRY,WORKS,HOUSING,1,2026-12-07,25,1000\n"
    ++ codes "schedule,call,FOUNDRY,WORKS,HOUSING,3,2026-12-21,44,1044\n"
    ++ codes "schedule,reset,FOUNDRY,WORKS,HOUSING,5,2027-01-04,,1044\n"
    ++ codes "schedule,call,FOUNDRY,WORKS,HOUSING,5,2027-01-04,14,14\n"
    ++ codes "schedule,opening,FOUNDRY,WORKS,IMPELLER,,,24,2124\n"
    ++ codes "schedule,call,FOUNDRY,WORKS,IMPELLER,1,2026-12-07,30,2154\n"
    ++ codes "schedule,call,FOUNDRY,WORKS,IMPELLER,2,2026-12-14,30,2184\n"
    ++ codes "schedule,call,FOUNDRY,WORKS,IMPELLER,3,2026-12-21,40,2224\n"
    ++ codes "schedule,call,FOUNDRY,WORKS,IMPELLER,4,2026-12-28,30,2254\n"
    ++ codes "schedule,reset,FOUNDRY,WORKS,IMPELLER,5,2027-01-04,,2254\n"
    ++ codes "schedule,call,FOUNDRY,WORKS,IMPELLER,5,2027-01-04,30,30\n"
    ++ codes "schedule,opening,FOUNDRY,DEPOT,IMPELLER,,,0,70\n"
    ++ codes "schedule,call,FOUNDRY,DEPOT,IMPELLER,0,2026-11-30,2,72\n"
    ++ codes "schedule,call,FOUNDRY,DEPOT,IMPELLER,1,2026-12-07,2,74\n"
    ++ codes "schedule,call,FOUNDRY,DEPOT,IMPELLER,3,2026-12-21,3,77\n"
    ++ codes "schedule,call,FOUNDRY,DEPOT,IMPELLER,4,2026-12-28,2,79\n"
    ++ codes "schedule,reset,FOUNDRY,DEPOT,IMPELLER,5,2027-01-04,,79\n"
    ++ codes "schedule,call,FOUNDRY,DEPOT,IMPELLER,5,2027-01-04,1,1\n"
    ++ codes "schedule,opening,WORKS,DEPOT,PUMP,,,4,214\n"
    ++ codes "schedule,call,WORKS,DEPOT,PUMP,1,2026-12-07,5,219\n"
    ++ codes "schedule,call,WORKS,DEPOT,PUMP,3,2026-12-21,7,226\n"
    ++ codes "schedule,reset,WORKS,DEPOT,PUMP,5,2027-01-04,,226\n"
    ++ codes "schedule,call,WORKS,DEPOT,PUMP,5,2027-01-04,10,10\n"
    ++ codes "schedule,opening,WORKS,DEPOT,IMPELLER,,,0,160\n"
    ++ codes "schedule,call,WORKS,DEPOT,IMPELLER,0,2026-11-30,3,163\n"
    ++ codes "schedule,call,WORKS,DEPOT,IMPELLER,1,2026-12-07,3,166\n"
    ++ codes "schedule,call,WORKS,DEPOT,IMPELLER,3,2026-12-21,7,173\n"
    ++ codes "schedule,call,WORKS,DEPOT,IMPELLER,4,2026-12-28,2,175\n"
    ++ codes "schedule,reset,WORKS,DEPOT,IMPELLER,5,2027-01-04,,175\n"
    ++ codes "schedule,call,WORKS,DEPOT,IMPELLER,5,2027-01-04,2,2\n"

-- which open orders to move
abbrev pub PumpsAreAdvised : Type 0
PumpsAreAdvised =
    advice_text Names None None pumps (plan_of pumps)
    ≡ codes "row,action,kind,plant,item,supplier,period,date,quantity,needed,needed_date\n"
    ++ codes "advice,defer,receipt,WORKS,PUMP,,0,2026-11-30,10,1,2026-12-07\n"
    ++ codes "advice,defer,ship,WORKS,IMPELLER,FOUNDRY,1,2026-12-07,24,2,2026-12-14\n"
    ++ codes "advice,defer,receipt,WORKS,MOTOR,,1,2026-12-07,50,2,2026-12-14\n"
    ++ codes "advice,expedite,receipt,FOUNDRY,CASTING,,4,2026-12-28,60,0,2026-11-30\n"
    ++ codes "advice,cancel,receipt,FOUNDRY,CASTING,,7,2027-01-18,40,,\n"
    ++ codes "advice,defer,ship,DEPOT,PUMP,WORKS,0,2026-11-30,4,1,2026-12-07\n"

-- the cumulative figures with which every run ends
abbrev pub PumpsAreCounted : Type 0
PumpsAreCounted =
    lane_text pumps (last_figures pumps)
    ≡ codes "lane,despatch,FOUNDRY,WORKS,HOUSING,960,975,975,0\n"
    ++ codes "lane,despatch,FOUNDRY,WORKS,IMPELLER,2100,2124,2124,0\n"
    ++ codes "lane,schedule,WORKS,FOUNDRY,HOUSING,975,1058,1058,0\n"
    ++ codes "lane,schedule,WORKS,FOUNDRY,IMPELLER,2124,2284,2284,0\n"
    ++ codes "lane,despatch,FOUNDRY,DEPOT,IMPELLER,70,70,70,0\n"
    ++ codes "lane,schedule,DEPOT,FOUNDRY,IMPELLER,70,80,80,0\n"
    ++ codes "lane,despatch,WORKS,DEPOT,PUMP,210,214,214,0\n"
    ++ codes "lane,despatch,WORKS,DEPOT,IMPELLER,160,160,160,0\n"
    ++ codes "lane,schedule,DEPOT,WORKS,PUMP,214,236,236,0\n"
    ++ codes "lane,schedule,DEPOT,WORKS,IMPELLER,160,177,177,0\n"
