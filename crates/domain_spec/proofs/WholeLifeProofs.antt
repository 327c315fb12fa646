-- Why a guest's whole life is a legal history.
use Rattle.std.proofs.Common.{refl, inl, arith}
use Rattle.domain_spec.specs.WholeLife.{HasWholeLife}

pub has_whole_life : HasWholeLife
has_whole_life def n who = record {
  legal = (
    (record { in_order = record { may = tt; own = refl; carried = refl }; loss = tt }),
    (
      (record { in_order = record { call = record { numbered = refl; caller = refl; same_call = refl; same_boot = refl; own_job = refl }; right_before = refl; alone = refl; begins = refl }; loss = tt }),
      (
        (record { in_order = record { may = record { caller = refl; awake = refl }; own = (refl, refl, tt); carried = refl }; loss = tt }),
        (
          (record { in_order = record { nested = record { nested = refl; job_number = refl; job_caller = refl; numbered = refl; caller = refl }; due = refl; made = inl (record { planned = (refl, refl); through = refl }); ended_first = refl; outcome_is = refl; told = refl }; loss = tt }),
          (
            (record { in_order = record { may = record { caller = refl; awake = refl }; own = (refl, refl, tt); carried = refl }; loss = tt }),
            (
              (record { in_order = record { nested = record { nested = refl; job_number = refl; job_caller = refl; numbered = refl; caller = refl }; due = refl; made = inl (record { planned = (refl, refl); through = refl }); ended_first = refl; outcome_is = refl; told = refl }; loss = tt }),
              (
                (record { in_order = record { numbered = refl; caller = refl; over = refl; no_nested = tt }; loss = tt }),
                (
                  (record { in_order = record { may = tt; own = refl; carried = refl }; loss = tt }),
                  (
                    (record { in_order = (record { numbered = refl; caller = refl; same_call = refl; same_boot = refl; own_job = refl }, record { planned = (refl, refl); through = refl; no_operation = refl; not_taken_up = refl; ended_first = refl; unsent = tt; reply = refl; told = refl }); loss = tt }),
                    (
                      (record { in_order = record { may = tt; own = refl; carried = (omega arith, omega arith) }; loss = tt }),
                      (
                        (record { in_order = (record { numbered = refl; caller = refl; same_call = refl; same_boot = refl; own_job = refl }, record { planned = (refl, refl); through = refl; no_operation = refl; not_taken_up = refl; ended_first = refl; unsent = tt; reply = refl; told = refl }); loss = tt }),
                        tt,
                      ),
                    ),
                  ),
                ),
              ),
            ),
          ),
        ),
      ),
    ),
  );
  one_boot = refl;
  no_guest = refl;
  told = refl;
}
