-- The model with one plain list of jobs: its state, its steps and its commands.
pub mod Acts
pub mod Asked
pub mod Changes
pub mod Dispatch
pub mod JobCommands
pub mod JobStates
pub mod Limits
pub mod Machine
pub mod OneClient
pub mod Statistics
pub mod StatisticsCommands
pub mod Steps
pub mod Timers
pub mod TubeCommands
pub mod TubeOrder
pub mod Tubes
pub mod Waits
pub use Acts.{Effect, telling, silent, on_found, on_job, showing}
pub use Asked.{refusal_answer, asked, after_connect, with_end, state_once_left, after_close, connect_effect, ask_effect, end_effect}
pub use Asked.{close_effect, at_found, effect}
pub use Changes.{better_of, first_of, is_pair_before, is_waiting, job_with, seat_with, with_job, with_seat, without_wait, is_ready_state}
pub use Changes.{is_ready, is_holder, is_held_by, in_state, given_back}
pub use Dispatch.{GivenAnswer, may_have, is_job_before, ticket_of, is_wait_before, is_waiting_for, next_job, next_seat, with_reserve}
pub use Dispatch.{reserved_by, after_hand_out, IsHandOut, DispatchTurn}
pub use JobCommands.{last_id, no_counts, delayed_by, new_job, with_put, after_put, is_full, put_effect, waiting_from, reserve_effect}
pub use JobCommands.{reserve_job_effect, is_free_for, with_delete, after_delete, delete_effect, with_release, released, release_effect}
pub use JobCommands.{with_bury, buried, bury_effect, touch_effect, with_kick, kicked, put_in_order, in_order, is_buried_in, is_delayed_in}
pub use JobCommands.{kicked_first, kickable, after_kick, kick_effect, kick_job_effect}
pub use JobStates.{is_reserved, is_delayed, is_buried, due_of, burial_of, is_due_before, is_buried_before}
pub use Limits.{greatest, grown, raised, later}
pub use Machine.{Settings, Wait, SeatRecord, Pause, TubeRecord, default_tube, empty_seat, numbers, new_machine}
pub use OneClient.{is_connected_at, is_waiting_at, is_closed_answer, has_closed}
pub use Statistics.{seconds_between, state_word, time_left, job_statistics, is_urgent, job_counts, jobs_in, using_count, watching_count}
pub use Statistics.{waiting_clients_of, pause_seconds, pause_time_left, tube_statistics, bool_word, server_statistics}
pub use StatisticsCommands.{job_statistics_or_not, stats_job_effect, stats_tube_effect, stats_effect, list_tubes_effect}
pub use StatisticsCommands.{list_watched_effect}
pub use Steps.{Memory, granted, growth_refused, share_refused, takes_memory, step_takes_memory, may_be_left_out, shares_body, is_possible}
pub use Steps.{acted, addressed, is_out_of_memory, has_refused_share, Dispatches, EndsWaits, Serves, is_growth_refused, is_share_refused}
pub use Steps.{Outcome, IsStep}
pub use Timers.{at_moment, is_due, is_expired, with_timeout, job_after_timers, pause_after_timers, tube_after_timers, after_timers}
pub use TubeCommands.{using, use_effect, watching, watched_with, watch_effect, watching_or_refused, ignore_effect, peek_effect, is_ready_in}
pub use TubeCommands.{peek_ready_effect, peek_delayed_effect, peek_buried_effect, pause_of, with_pause, pause_effect}
pub use TubeOrder.{with_name, in_name_order, seated_tubes, tubes, name_list}
pub use Tubes.{watches, is_seated_at, is_tube, forgetting, fresh_tube, tube_record, is_paused, is_name_before, with_record, with_tube}
pub use Waits.{is_ending_lease, is_deadline_soon, is_past, is_until_over, is_timed_out_at, is_timed_out, ends_waiting, end_of_wait}
pub use Waits.{next_end, WaitEndTurn, Chain}
