-- What the program zonelist prints of the bytes that it read, and what its arrays then hold: the listing, or the line of the refusal.
use Rattle.std.specs.Prelude.{List, ℕ, ℤ, length, Ok, Err}
use Rattle.std.specs.Option.{unwrap_or}
use Rattle.common.specs.Tested.{Tested, without_value}
use Rattle.job.specs.Listing.{refusal}
use Rattle.job.specs.Writing.{printed}
use Rattle.zone_steps.specs.Steps.{Lists}
use Rattle.zone_list.specs.List.{list_rooms, run_job, text, list}

abbrev pub text_or_refusal : Tested → List ℕ → List ℕ
text_or_refusal (Ok _) t = t
text_or_refusal (Err r) t = refusal r

unfoldable pub job_text : List ℕ → List ℕ
unfolding run_job text refusal
job_text b = text_or_refusal (without_value (run_job b list_rooms).answer) (text b list_rooms)

-- how many bytes there are to print of a text in n places, none without room, and what the places hold
pub record PrintedText : Type 0 where
  pub bytes : ℕ
  pub text : List ℕ

unfoldable pub printed_text : List ℕ → ℕ → PrintedText
unfolding printed
printed_text t n = let p = printed t n in record { bytes = unwrap_or p.so_far 0; text = p.text }

-- the number of bytes to print, and every array
pub record PrintedJob : Type 0 where
  pub bytes : ℕ
  pub text : List ℕ
  pub addresses : List ℤ
  pub map : List ℤ
  pub grg : List ℤ
  pub lists : Lists

unfoldable pub printed_job : List ℕ → PrintedJob
unfolding job_text printed_text list
printed_job b =
    let t = job_text b in
    let o = list b list_rooms 8192 in
    record { bytes = length t; text = (printed_text t 8192).text; addresses = o.addresses; map = o.map; grg = o.grg; lists = o.lists }
