use Rattle.life_app.proofs.KeptRunLaws.{left_by_call, two_left}
use Rattle.life_app.proofs.RunLaws.{Facts}
use Rattle.life_app.proofs.laws.runs_over_both.Goals as goal

pub returns : goal.returns
returns g c =
    let first_facts : Facts g.D.Disk = record {
      reads_as_image = λ disk honest. g.met.D.Disk.reads_as_image disk honest;
      counts_now = λ disk moment image honest passed may. g.met.D.Disk.counts_now disk moment image honest passed may;
      only_now = λ disk image honest left. g.met.D.Disk.only_now disk image honest left;
    } in
    let second_facts : Facts g.E.Disk = record {
      reads_as_image = λ disk honest. g.met.E.Disk.reads_as_image disk honest;
      counts_now = λ disk moment image honest passed may. g.met.E.Disk.counts_now disk moment image honest passed may;
      only_now = λ disk image honest left. g.met.E.Disk.only_now disk image honest left;
    } in
    record {
      left = λ first last second last_second commands runs image file safe second_safe opens saved are left may.
          two_left g.D.Disk g.E.Disk first_facts second_facts first second commands runs last last_second safe second_safe opens saved are image file left may;
      so = λ disks input read output written shelf asked words auditors status honest kept_honest obeys.
          left_by_call g.D.Disk g.E.Disk second_facts disks honest kept_honest words auditors _ _ _ _ _ status obeys;
    }
