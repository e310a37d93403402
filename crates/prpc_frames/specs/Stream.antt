-- A stream of baidu_std frames: what the bytes say, and how a frame is spelled. By brpc's baidu_std document; the faults, their places and their order are this project's own choice.
pub mod Reading
pub mod Spelling
pub use Rattle.prpc_frames.specs.Stream.Reading.{Stream, later, frame, frames, begun, fed}
pub use Rattle.prpc_frames.specs.Stream.Spelling.{frame_bytes, IsFitting}
